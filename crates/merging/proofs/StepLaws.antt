-- One pair of the patch: what it makes of the target's members.
use Rattle.std.specs.Prelude.{if◌then◌else◌}
use mathlib.Core.Path.{◌≡◌, ap}
use mathlib.Core.Bool.{Bool, true, false}
use mathlib.Core.Option.{none, some}
use Rattle.spec.specs.Bytes.{Text}
use Rattle.spec.specs.Forest.{tree}
use Rattle.spec.specs.Value as Value
use Rattle.spec.specs.Value.{Label, Entry, Members, is_object, same_text, has}
use Rattle.spec.specs.Operation.{with_kids, insert_member}
use Rattle.merging.specs.MergePatch.{is_null, as_object, without, member_of, merge_members, merge_patch}
use Rattle.merging.specs.Parts.{get}
use Rattle.merging.proofs.MemberLaws.{set, drop, Single, single-set, single-drop, set-member, drop-member, get_set, get_set_other}
use Rattle.merging.proofs.MemberLaws.{get_drop, get-drop-other}

-- the value of a pair, by itself
abbrev pub value_in : Entry → Members → Value.Value
value_in e kids = record { label = e.label; kids = kids }

-- what it makes of the target's
unfoldable pub stepped : Entry → Members → Value.Value → Members
stepped e kids t = if is_null e.label then drop e.name t.kids else set e.name (merge_patch (member_of e.name t) (value_in e kids)) t.kids

pub merge_step : (e : Entry) (kids rest : Members) (t : Value.Value) → merge_members (tree e kids rest) t ≡ merge_members rest (with_kids t (stepped e kids t))
unfolding merge_members merge_patch stepped
merge_step e kids rest t = ap (merge_members rest) (go (is_null e.label))
  where
    x : Value.Value
    x = (if is_object e.label then merge_members kids (as_object (member_of e.name t)) else value_in e kids)

    go : (b : Bool) →
        (if b then without e.name t else insert_member x e.name t) ≡ with_kids t (if b then drop e.name t.kids else set e.name x t.kids)
    go true = drop-member e.name t
    go false = set-member e.name x t

pub step_other : (e : Entry) (kids : Members) (t : Value.Value) (m : Text) → same_text e.name m ≡ false → get m (stepped e kids t) ≡ get m t.kids
unfolding stepped
step_other e kids t m apart = go (is_null e.label)
  where
    go : (b : Bool)
        → get m (if b then drop e.name t.kids else set e.name (merge_patch (member_of e.name t) (value_in e kids)) t.kids) ≡ get m t.kids
    go true = get-drop-other e.name m apart t.kids
    go false = get_set_other e.name m apart _ t.kids

pub step_null : (e : Entry) (kids : Members) (t : Value.Value) → is_null e.label ≡ true → Single t.kids → get e.name (stepped e kids t) ≡ none
unfolding stepped
step_null e kids t h s = rw h (get_drop e.name t.kids s)

pub step_merged : (e : Entry) (kids : Members) (t : Value.Value) → is_null e.label ≡ false →
    get e.name (stepped e kids t) ≡ some (merge_patch (member_of e.name t) (value_in e kids))
unfolding stepped
step_merged e kids t h = rw h (get_set e.name _ t.kids)

pub step_single : (e : Entry) (kids : Members) (t : Value.Value) → Single t.kids → Single (stepped e kids t)
unfolding stepped
step_single e kids t s = go (is_null e.label)
  where
    go : (b : Bool) → Single (if b then drop e.name t.kids else set e.name (merge_patch (member_of e.name t) (value_in e kids)) t.kids)
    go true = single-drop e.name s
    go false = single-set e.name _ s
