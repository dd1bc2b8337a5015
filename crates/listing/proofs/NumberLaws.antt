-- Laws of trees that bear the numbers of their operations: they mean the same, and so do the values in them.
use Rattle.std.specs.Prelude.{if◌then◌else◌}
use Prim.Native.Nat.{ℕ, zero, suc, ◌+◌, ◌<◌}
use native.Mathlib.Omega.{arith}
use mathlib.Core.Path.{◌≡◌, refl, ap, ap₂, ◌∙◌, subst}
use mathlib.Core.Bool.{Bool, true, false}
use mathlib.Core.List.{List, [], ◌∷◌}
use lib.Dec.{ltb}
use borrow.Author.Tests.{ltb-true}
use Rattle.spec.specs.Outcome.{Outcome, ok, refused}
use Rattle.spec.specs.Refusal.{wrong_shape}
use Rattle.spec.specs.Bytes.{ascii}
use Rattle.spec.specs.Forest.{Forest, none, tree, Tree, count, size, nth}
use Rattle.spec.specs.Value as Plain
use Rattle.spec.specs.Pointer as PlainPointer
use Rattle.spec.specs.Operation as Operation
use Rattle.spec.specs.Patch.{Run, finished, stopped, at_op, no_pointer, on_finish, member, uses_value, operation, operations}
use Rattle.spec.proofs.OutcomeLaws.{refused≢ok}
use Rattle.tape.specs.Map.{map_forest, map_tree}
use Rattle.tape.specs.declared.fields.Cell.{Cell}
use Rattle.tape.specs.Cell.{Formed, formed_none, formed_tree}
use Rattle.tape.specs.Lent.{Texts}
use Rattle.tape.proofs.Cells.{formed_fit, formed_kids}
use Rattle.tape.proofs.Map.{size-map}
use Rattle.table.specs.All.{all_none, all_tree}
use Rattle.table.specs.Meaning.{members, meant, entry_of}
use Rattle.table.specs.Sound.{Sound}
use Rattle.table.proofs.AllLaws.{all_first, all_kids}
use Rattle.origin.specs.Value as Value
use Rattle.origin.specs.Value.{painted, painted_entry, value_of}
use Rattle.origin.specs.Pointer.{child}
use Rattle.origin.proofs.ForgetLaws.{map-map, forget_members_lem}
use Rattle.walk.specs.Bearing.{borne, borne_members}
use Rattle.walk.proofs.Children.{forget-borne}
use Rattle.operations.specs.Bearing.{value_in, valued, Numbered, numbered_none, numbered_next}
use Rattle.operations.proofs.StampLaws.{formed_stamped, sound_stamped, borne-stamped}
use Rattle.operations.proofs.ToldLaws.{told}
use Rattle.listing.specs.Stamps.{numbered_cell, numbered}

-- ---- what the trees are
pub size-numbered : (k : ℕ) (f : Forest Cell) → size (numbered k f) ≡ size f
unfolding numbered size
size-numbered k none = refl
size-numbered k (tree c kids rest) = omega (arith, size-map (numbered_cell k) kids, size-numbered (k + 1) rest)

pub members-numbered : (T : Texts) (k : ℕ) (f : Forest Cell) → members T (numbered k f) ≡ members T f
unfolding numbered map_forest
members-numbered T k none = refl
members-numbered T k (tree c kids rest) =
    ap₂ {C = Forest Plain.Entry} (λ g h. tree (entry_of T c) g h) (map-map (entry_of T) (numbered_cell k) kids) (members-numbered T (k + 1) rest)

pub formed_numbered : (k : ℕ) {f : Forest Cell} → Formed f → Formed (numbered k f)
unfolding numbered map_forest
formed_numbered k formed_none = formed_none
formed_numbered k (formed_tree fit kids rest) =
    let o = formed_stamped k (formed_tree fit kids formed_none) in formed_tree (formed_fit o) (formed_kids o) (formed_numbered (k + 1) rest)

pub sound_numbered : {T : Texts} (k : ℕ) {f : Forest Cell} → Sound T f → Sound T (numbered k f)
unfolding numbered map_forest
sound_numbered k all_none = all_none
sound_numbered k (all_tree h kids rest) =
    let s = sound_stamped k (all_tree h kids all_none) in all_tree (all_first s) (all_kids s) (sound_numbered (k + 1) rest)

-- ---- the member `value` of an element that bears k
nth-painted : (k i : ℕ) (d : Tree Value.Entry) (t : Tree Plain.Entry) (f : Forest Plain.Entry) → i < count f
    → nth d i (map_forest (painted_entry k) f) ≡ map_tree (painted_entry k) (nth t i f)
unfolding nth map_forest count
nth-painted k i d t none h = absurd (omega arith)
nth-painted k zero d t (tree e kids rest) h = refl
nth-painted k (suc i) d t (tree e kids rest) h = nth-painted k i d t rest (omega arith)

value-painted : (k : ℕ) (u x : Plain.Value) → member (ascii "value") u ≡ ok x → value_in (painted k u) ≡ painted k x
unfolding member value_in child PlainPointer.child
value-painted k u x e = go (ltb (Plain.find (ascii "value") u.kids) (count u.kids)) refl e
  where
    go : (b : Bool) → ltb (Plain.find (ascii "value") u.kids) (count u.kids) ≡ b
        → (if b then ok (Plain.value_of (PlainPointer.child (Plain.find (ascii "value") u.kids) u)) else refused wrong_shape 0) ≡ ok x
        → value_in (painted k u) ≡ painted k x
    go true q f =
        let same : Plain.value_of (PlainPointer.child (Plain.find (ascii "value") u.kids) u) ≡ x = cc in
        ap (λ g. value_of (child (Plain.find (ascii "value") g) (painted k u))) (forget_members_lem k u.kids)
        ∙ ap value_of (nth-painted k (Plain.find (ascii "value") u.kids) _ _ u.kids (ltb-true _ _ q)) ∙ ap (painted k) same
    go false q f = absurd (refused≢ok f)

-- the value of the element that operation k is
module _ (T : Texts) (k : ℕ) (c : Cell) (kids : Forest Cell) where
  abbrev value_of_lem : Value.Value
  value_of_lem = value_in (borne T (numbered_cell k c) (map_forest (numbered_cell k) kids))

  value-bears : (o : Operation.Operation) → operation (meant T c kids) ≡ ok o → uses_value o.kind ≡ true → value_of_lem ≡ painted k o.value
  value-bears o is uses =
      ap value_in (borne-stamped T k c kids ∙ ap (painted k) (forget-borne T c kids)) ∙ value-painted k (meant T c kids) o.value ((told _ o is).value uses)

-- ---- the operations of the trees
pub values-numbered : (T : Texts) (k : ℕ) (f : Forest Cell) (os : List Operation.Operation) → operations k (members T f) ≡ finished os
    → Numbered k (valued (borne_members T (numbered k f)) os) os
unfolding operations numbered map_forest valued at_op on_finish
values-numbered T k none os e = let same : ◌≡◌ {A = List Operation.Operation} [] os = cc in subst (λ l. Numbered k [] l) same numbered_none
values-numbered T k (tree c kids rest) os e =
    go (operation (meant T c kids)) refl (operations (k + 1) (members T rest)) refl e (values-numbered T (k + 1) rest)
  where
    go : (o : Outcome Operation.Operation) → operation (meant T c kids) ≡ o → (q : Run (List Operation.Operation)) → operations (k + 1) (members T rest) ≡ q
        → on_finish (at_op k no_pointer o) (λ o'. on_finish q (λ os'. finished (o' ∷ os'))) ≡ finished os
        → ((us : List Operation.Operation) → operations (k + 1) (members T rest) ≡ finished us
        → Numbered (k + 1) (valued (borne_members T (numbered (k + 1) rest)) us) us)
        → Numbered k (valued (borne_members T (numbered k (tree c kids rest))) os) os
    go (refused number place) is q are h later = absurd (let z : ◌≡◌ {A = ℕ} 0 1 = cc in omega arith)
    go (ok o) is (stopped s) are h later = absurd (let z : ◌≡◌ {A = ℕ} 0 1 = cc in omega arith)
    go (ok o) is (finished us) are h later =
        let same : ◌≡◌ {A = List Operation.Operation} (o ∷ us) os = cc in
        subst (λ l. Numbered k (valued (borne_members T (numbered k (tree c kids rest))) l) l) same
        (numbered_next (value-bears T k c kids o is) (later us are))
