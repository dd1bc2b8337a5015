-- Members with origins by their names: looked up, set and dropped.
use Rattle.std.specs.Prelude.{if◌then◌else◌}
use mathlib.Core.Path.{◌≡◌, refl, ap}
use mathlib.Core.Bool.{Bool, true, false}
use mathlib.Core.List.{[]}
use mathlib.Core.Option.{Option, none, some}
use Prim.Native.Nat.{suc}
use Rattle.spec.specs.Bytes.{Text}
use Rattle.spec.specs.Forest as Forest
use Rattle.spec.specs.Forest.{tree, Tree, count, before, from, insert_at, remove_at, replace_at, nth, ◌⧺◌}
use Rattle.spec.specs.Value as Plain
use Rattle.spec.specs.Value.{Label, same_text}
use Rattle.spec.proofs.TextLaws.{same_text_true, same_text_refl}
use Rattle.spec.proofs.NameLaws.{has_cons}
use Rattle.tape.specs.Map.{map_forest}
use Rattle.origin.specs.Value as Value
use Rattle.origin.specs.Value.{Entry, Members, forget_entry, forget_members, leaf, named, value_of, find, has}
use Rattle.origin.specs.Pointer.{child}
use Rattle.origin.specs.Operation.{with_kids, put, insert_member}
use Rattle.origin.specs.MergePatch.{merge_origin, without, member_of}

abbrev pub value_in : Entry → Members → Value.Value
value_in e kids = record { label = e.label; origin = e.origin; kids = kids }

-- the value so named
unfoldable pub get : Text → Members → Option Value.Value
get n Forest.none = none
get n (tree e kids rest) = if same_text e.name n then some (value_in e kids) else get n rest

-- the member so named has another value; where there is none, it is put last
unfoldable pub set : Text → Value.Value → Members → Members
set n x Forest.none = tree (named n x).root x.kids Forest.none
set n x (tree e kids rest) = if same_text e.name n then tree (named e.name x).root x.kids rest else tree e kids (set n x rest)

-- the member so named is gone
unfoldable pub drop : Text → Members → Members
drop n Forest.none = Forest.none
drop n (tree e kids rest) = if same_text e.name n then rest else tree e kids (drop n rest)

-- a value so named, or another
unfoldable pub or_else : Value.Value → Option Value.Value → Value.Value
or_else other none = other
or_else other (some v) = v

-- ---- These are the operations of the definitions.
set_is : (z : Tree Entry) (n : Text) (x : Value.Value) (f : Members) →
    (if has n f then replace_at (find n f) (named (nth z (find n f) f).root.name x) f else insert_at (count f) (named n x) f) ≡ set n x f
unfolding set map_forest Plain.find count replace_at insert_at before from nth ◌⧺◌
set_is z n x Forest.none = refl
set_is z n x (tree e kids rest) =
    rw (has_cons n (forget_entry e) (forget_members kids) (forget_members rest)) (go (same_text e.name n) (has n rest) (set_is z n x rest))
  where
    go : (b c : Bool) →
        (if c then replace_at (find n rest) (named (nth z (find n rest) rest).root.name x) rest else insert_at (count rest) (named n x) rest) ≡ set n x rest →
        (if (if b then true else c) then
        replace_at (if b then 0 else suc (find n rest)) (named (nth z (if b then 0 else suc (find n rest)) (tree e kids rest)).root.name x) (tree e kids rest)
        else insert_at (suc (count rest)) (named n x) (tree e kids rest)) ≡
        (if b then tree (named e.name x).root x.kids rest else tree e kids (set n x rest))
    go true c ih = refl
    go false true ih = ap (tree e kids) ih
    go false false ih = ap (tree e kids) ih

drop_is : (n : Text) (f : Members) → (if has n f then remove_at (find n f) f else f) ≡ drop n f
unfolding drop map_forest Plain.find count remove_at before from ◌⧺◌
drop_is n Forest.none = refl
drop_is n (tree e kids rest) =
    rw (has_cons n (forget_entry e) (forget_members kids) (forget_members rest)) (go (same_text e.name n) (has n rest) (drop_is n rest))
  where
    go : (b c : Bool) → (if c then remove_at (find n rest) rest else rest) ≡ drop n rest →
        (if (if b then true else c) then remove_at (if b then 0 else suc (find n rest)) (tree e kids rest) else tree e kids rest) ≡
        (if b then rest else tree e kids (drop n rest))
    go true c ih = refl
    go false true ih = ap (tree e kids) ih
    go false false ih = ap (tree e kids) ih

get_is : (z : Tree Entry) (other : Value.Value) (n : Text) (f : Members) →
    (if has n f then value_of (nth z (find n f) f) else other) ≡ or_else other (get n f)
unfolding or_else get map_forest Plain.find count nth
get_is z other n Forest.none = refl
get_is z other n (tree e kids rest) =
    rw (has_cons n (forget_entry e) (forget_members kids) (forget_members rest)) (go (same_text e.name n) (has n rest) (get_is z other n rest))
  where
    go : (b c : Bool) → (if c then value_of (nth z (find n rest) rest) else other) ≡ or_else other (get n rest) →
        (if (if b then true else c) then value_of (nth z (if b then 0 else suc (find n rest)) (tree e kids rest)) else other) ≡
        or_else other (if b then some (value_in e kids) else get n rest)
    go true c ih = refl
    go false true ih = ih
    go false false ih = ih

pub set-member : (n : Text) (x v : Value.Value) → insert_member x n v ≡ with_kids v (set n x v.kids)
unfolding insert_member put child
set-member n x v = go (has n v.kids) refl
  where
    z : Tree Entry
    z = named [] (leaf 0 Label.null_literal)

    go : (b : Bool) → has n v.kids ≡ b →
        (if b then with_kids v (replace_at (find n v.kids) (named (nth z (find n v.kids) v.kids).root.name x) v.kids)
        else with_kids v (insert_at (count v.kids) (named n x) v.kids)) ≡ with_kids v (set n x v.kids)
    go true h = ap (with_kids v) (rw h at (set_is z n x v.kids))
    go false h = ap (with_kids v) (rw h at (set_is z n x v.kids))

pub drop-member : (n : Text) (v : Value.Value) → without n v ≡ with_kids v (drop n v.kids)
unfolding without
drop-member n v = go (has n v.kids) refl
  where
    go : (b : Bool) → has n v.kids ≡ b →
        (if b then with_kids v (remove_at (find n v.kids) v.kids) else v) ≡ with_kids v (drop n v.kids)
    go true h = ap (with_kids v) (rw h at (drop_is n v.kids))
    go false h = ap (with_kids v) (rw h at (drop_is n v.kids))

pub get-member : (n : Text) (v : Value.Value) → member_of n v ≡ or_else (leaf merge_origin Label.null_literal) (get n v.kids)
unfolding member_of child
get-member n v = get_is (named [] (leaf 0 Label.null_literal)) (leaf merge_origin Label.null_literal) n v.kids

-- ---- what is looked up afterwards
pub get_set : (n : Text) (x : Value.Value) (f : Members) → get n (set n x f) ≡ some x
unfolding get set
get_set n x Forest.none = rw (same_text_refl n)
get_set n x (tree e kids rest) = go (same_text e.name n) refl (get_set n x rest)
  where
    go : (b : Bool) → same_text e.name n ≡ b → get n (set n x rest) ≡ some x →
        get n (if b then tree (named e.name x).root x.kids rest else tree e kids (set n x rest)) ≡ some x
    go true q ih = rw q
    go false q ih = rw q ih

module _ (n m : Text) (apart : same_text n m ≡ false) where
  pub get_set_other : (x : Value.Value) (f : Members) → get m (set n x f) ≡ get m f
  unfolding get set
  get_set_other x Forest.none = rw apart
  get_set_other x (tree e kids rest) = go (same_text e.name n) refl (get_set_other x rest)
    where
      go : (b : Bool) → same_text e.name n ≡ b → get m (set n x rest) ≡ get m rest →
          get m (if b then tree (named e.name x).root x.kids rest else tree e kids (set n x rest)) ≡
          (if same_text e.name m then some (value_in e kids) else get m rest)
      go true q ih = let here : same_text e.name m ≡ false = rw (same_text_true e.name n q) apart in rw here
      go false q ih = ap (λ o. (if same_text e.name m then some (value_in e kids) else o)) ih

  pub get-drop-other : (f : Members) → get m (drop n f) ≡ get m f
  unfolding get drop
  get-drop-other Forest.none = refl
  get-drop-other (tree e kids rest) = go (same_text e.name n) refl (get-drop-other rest)
    where
      go : (b : Bool) → same_text e.name n ≡ b → get m (drop n rest) ≡ get m rest →
          get m (if b then rest else tree e kids (drop n rest)) ≡ (if same_text e.name m then some (value_in e kids) else get m rest)
      go true q ih = let here : same_text e.name m ≡ false = rw (same_text_true e.name n q) apart in rw here
      go false q ih = ap (λ o. (if same_text e.name m then some (value_in e kids) else o)) ih
