-- A merge, member by member: what the patch does not name keeps its origins, and what it names is merged in turn.
use Rattle.std.specs.Prelude.{if◌then◌else◌}
use mathlib.Core.Path.{◌≡◌, refl, ap, sym, subst, ◌∙◌}
use mathlib.Core.Bool.{Bool, true, false, true≢false}
use mathlib.Core.List.{[], ◌∷◌}
use mathlib.Core.Option.{some}
use Prim.Native.Nat.{suc}
use Rattle.spec.specs.Outcome.{ok, refused, ◌>>=◌}
use Rattle.spec.specs.Bytes.{Text}
use Rattle.spec.specs.Forest as Forest
use Rattle.spec.specs.Forest.{tree, Tree, count, nth}
use Rattle.spec.specs.Value as Plain
use Rattle.spec.specs.Value.{Label, Entry, Members, tag, is_array, is_object, same_text, find, has, named, value_of, leaf}
use Rattle.spec.specs.Pointer as PlainPointer
use Rattle.spec.specs.Pointer.{farther}
use Rattle.spec.proofs.OutcomeLaws.{refused≢ok}
use Rattle.spec.proofs.TextLaws.{same_text_true, same_text-apart}
use Rattle.spec.specs.Proper as Proper
use Rattle.spec.specs.Proper.{ProperItems, Proper}
use Rattle.spec.proofs.NameLaws.{has_cons, absent_parts}
use Rattle.merging.specs.MergePatch.{is_null}
use Rattle.origin.specs.Value as Value
use Rattle.origin.specs.Operation.{insert_member}
use Rattle.origin.specs.MergePatch.{merge_origin, as_object, without, member_of, merge_members, merge_patch}
use Rattle.origin.proofs.MemberLaws.{get, or_else, set-member, drop-member, get-member, get_set, get_set_other, get-drop-other}

-- the value of a pair of the patch
abbrev whole : Entry → Members → Plain.Value
whole e kids = record { label = e.label; kids = kids }

-- what one pair makes of the target
step : Entry → Members → Value.Value → Value.Value
step e kids t = if is_null e.label then without e.name t else insert_member (merge_patch (member_of e.name t) (whole e kids)) e.name t

merge_step : (e : Entry) (kids rest : Members) (t : Value.Value) → merge_members (tree e kids rest) t ≡ merge_members rest (step e kids t)
unfolding merge_members merge_patch step
merge_step e kids rest t = refl

-- it leaves members of another name
step_other : (e : Entry) (kids : Members) (t : Value.Value) (n : Text) → same_text e.name n ≡ false → get n (step e kids t).kids ≡ get n t.kids
unfolding step
step_other e kids t n apart = go (is_null e.label)
  where
    x : Value.Value
    x = merge_patch (member_of e.name t) (whole e kids)

    go : (b : Bool) → get n (if b then without e.name t else insert_member x e.name t).kids ≡ get n t.kids
    go true = ap (λ v. get n v.kids) (drop-member e.name t) ∙ get-drop-other e.name n apart t.kids
    go false = ap (λ v. get n v.kids) (set-member e.name x t) ∙ get_set_other e.name n apart x t.kids

step_merged : (e : Entry) (kids : Members) (t : Value.Value) → is_null e.label ≡ false →
    get e.name (step e kids t).kids ≡ some (merge_patch (member_of e.name t) (whole e kids))
unfolding step
step_merged e kids t h =
    rw h
    (ap (λ v. get e.name v.kids) (set-member e.name (merge_patch (member_of e.name t) (whole e kids)) t) ∙ get_set e.name _ t.kids)

others-kept : (p : Members) (t : Value.Value) (n : Text) → has n p ≡ false → get n (merge_members p t).kids ≡ get n t.kids
unfolding merge_members
others-kept Forest.none t n h = refl
others-kept (tree e kids rest) t n h =
    let (apart, later) = absent_parts n e kids rest h in
    ap (λ v. get n v.kids) (merge_step e kids rest t) ∙ others-kept rest (step e kids t) n later ∙
    step_other e kids t n (same_text-apart e.name n apart)

member-kept : (n : Text) (v w : Value.Value) → get n v.kids ≡ get n w.kids → member_of n v ≡ member_of n w
member-kept n v w h = get-member n v ∙ ap (or_else (Value.leaf merge_origin Label.null_literal)) h ∙ sym (get-member n w)

object-patch : (t : Value.Value) (p : Plain.Value) → p.label ≡ Label.object → merge_patch t p ≡ merge_members p.kids (as_object t)
unfolding merge_patch is_object tag
object-patch t p l = rw l

pub merge_unnamed : (t : Value.Value) (p : Plain.Value) (n : Text) → p.label ≡ Label.object → has n p.kids ≡ false →
    member_of n (merge_patch t p) ≡ member_of n (as_object t)
merge_unnamed t p n l h =
    ap (member_of n) (object-patch t p l) ∙ member-kept n (merge_members p.kids (as_object t)) (as_object t) (others-kept p.kids (as_object t) n h)

-- the pair of a name, which no other pair has
pair_merged : (z : Tree Entry) (p : Members) (t : Value.Value) (n : Text) → ProperItems true p → has n p ≡ true →
    is_null (nth z (find n p) p).root.label ≡ false → get n (merge_members p t).kids ≡ some (merge_patch (member_of n t) (value_of (nth z (find n p) p)))
unfolding merge_members find nth count
pair_merged z Forest.none t n q h s = absurd (true≢false (sym h))
pair_merged z (tree e kids rest) t n (Proper.member c alone a i q) h s =
    ap (λ v. get n v.kids) (merge_step e kids rest t) ∙
    go (same_text e.name n) refl (rw (has_cons n e kids rest) at h) s (pair_merged z rest (step e kids t) n q)
  where
    go : (b : Bool) → same_text e.name n ≡ b → (if b then true else has n rest) ≡ true →
        is_null (nth z (if b then 0 else suc (find n rest)) (tree e kids rest)).root.label ≡ false →
        (has n rest ≡ true → is_null (nth z (find n rest) rest).root.label ≡ false →
        get n (merge_members rest (step e kids t)).kids ≡ some (merge_patch (member_of n (step e kids t)) (value_of (nth z (find n rest) rest)))) →
        get n (merge_members rest (step e kids t)).kids ≡
        some (merge_patch (member_of n t) (value_of (nth z (if b then 0 else suc (find n rest)) (tree e kids rest))))
    go true same h s ih =
        let name = same_text_true e.name n same in
        others-kept rest (step e kids t) n (subst (λ m. has m rest ≡ false) name alone) ∙ ap (λ m. get m (step e kids t).kids) (sym name) ∙
        step_merged e kids t s ∙ ap (λ m. some (merge_patch (member_of m t) (whole e kids))) name
    go false apart h s ih =
        ih h s ∙ ap (λ m. some (merge_patch m (value_of (nth z (find n rest) rest)))) (member-kept n (step e kids t) t (step_other e kids t n apart))

-- a member by a pointer of one token
walked : (p x : Plain.Value) (n : Text) → p.label ≡ Label.object → PlainPointer.walk (n ∷ []) p ≡ ok x →
    (has n p.kids ≡ true) × (value_of (PlainPointer.child (find n p.kids) p) ≡ x)
unfolding PlainPointer.walk PlainPointer.child_at PlainPointer.member_named is_array is_object tag farther ◌>>=◌ PlainPointer.child
walked p x n l h = go (has n p.kids) refl (rw l at h)
  where
    go : (b : Bool) → has n p.kids ≡ b →
        ((if b then ok (find n p.kids) else refused 11 0) >>= λ k. farther (ok (value_of (PlainPointer.child k p)))) ≡ ok x →
        (has n p.kids ≡ true) × (value_of (PlainPointer.child (find n p.kids) p) ≡ x)
    go true q h = (q, cc)
    go false q h = absurd (refused≢ok h)

pub merge_named : (t : Value.Value) (p x : Plain.Value) (n : Text) → Proper p → p.label ≡ Label.object → PlainPointer.walk (n ∷ []) p ≡ ok x →
    is_null x.label ≡ false → member_of n (merge_patch t p) ≡ merge_patch (member_of n (as_object t)) x
unfolding PlainPointer.child is_object tag or_else
merge_named t p x n q l h s =
    let (there, is) = walked p x n l h in
    let z = named [] (leaf Label.null_literal) in
    let items = subst (λ m. ProperItems (is_object m) p.kids) l q.items in
    ap (member_of n) (object-patch t p l) ∙ get-member n (merge_members p.kids (as_object t)) ∙
    ap (or_else (Value.leaf merge_origin Label.null_literal))
    (pair_merged z p.kids (as_object t) n items there (subst (λ v. is_null v.label ≡ false) (sym is) s)) ∙
    ap (merge_patch (member_of n (as_object t))) is
