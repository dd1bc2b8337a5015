-- Laws of members that are noted with their parents.
use Prim.Native.Nat.{ℕ, suc, ◌+◌, ◌-◌, ◌≤◌, ◌<◌}
use native.Mathlib.Omega.{arith}
use native.Mathlib.Decide.{ℕ_discrete}
use mathlib.Core.Path.{◌≡◌, refl, sym, ap, ◌∙◌, subst}
use mathlib.Core.Bool.{Bool}
use mathlib.Core.List.{List, []}
use lib.ListN.{length, drop, get_or}
use lib.Seq.{drop-drop}
use Rattle.tape.specs.Layout.{scratch_row}
use Rattle.tape.specs.Fields.{Row, span_of}
use Rattle.tape.specs.declared.fields.Name.{Name}
use Rattle.tape.specs.Lent.{Table}
use Rattle.index.specs.Slots as Slots
use Rattle.index.specs.Slots.{room, slots, parent_slot, slot_at, slot_set, emptied}
use Rattle.index.specs.Ways.{Entered}
use Rattle.index.specs.Members.{Among, first, later, Child, Parents, Indexed, TreeIndexed}
use Rattle.index.proofs.SlotLaws.{slot_put, slot_other, slot_behind, slot_dropped, empty_slot, empty_short, empty_beyond}

-- ---- indexed step by step
pub indexed_self : {top : ℕ} {nodes : List Row} {xs : List ℕ} → Indexed top nodes xs xs
indexed_self = record { parents = λ p. p; beyond = refl }

pub indexed_on : {top : ℕ} {nodes : List Row} {xs ys zs : List ℕ} → Indexed top nodes xs ys → Indexed top nodes ys zs → Indexed top nodes xs zs
indexed_on a b = record { parents = λ p. b.parents (a.parents p); beyond = b.beyond ∙ a.beyond }

-- ---- a member entered, and its parent noted
beyond_parents : (xs ys : List ℕ) → drop Slots.parents ys ≡ drop Slots.parents xs → drop slots ys ≡ drop slots xs
beyond_parents xs ys e = sym (drop-drop room Slots.parents ys) ∙ ap (drop room) e ∙ drop-drop room Slots.parents xs

indexed_entered : {w : Table} {xs : List ℕ} {top object row : ℕ} {name : Name} {ys : List ℕ} {r : Bool} → Entered w xs top object row name ys r
    → Indexed top w.nodes xs ys
indexed_entered {xs = xs} {ys = ys} e =
    record {
      parents = λ p. record { child = λ r o h is. p.child r o h (sym (slot_dropped xs ys Slots.parents r e.behind) ∙ is) };
      beyond = beyond_parents xs ys e.behind;
    }

module _ {nodes : List Row} {top object row : ℕ} (xs ys : List ℕ) (stored : ys ≡ slot_set xs (parent_slot (row - top)) (object - top + 1))
    (k : Child nodes object row) (low : top ≤ object) (above : object < row) (near : row < top + room) (long : slots ≤ length xs) where
  noted_here : (r o : ℕ) → r ≡ row - top → slot_at ys (parent_slot r) ≡ suc o → Child nodes (top + o) (top + r)
  noted_here r o e is =
      let put : slot_at ys (parent_slot r) ≡ object - top + 1 =
      ap (λ zs. slot_at zs (parent_slot r)) stored ∙ ap (λ x. slot_at (slot_set xs (parent_slot (row - top)) (object - top + 1)) (parent_slot x)) e
      ∙ slot_put xs (parent_slot (row - top)) (object - top + 1) (omega arith) (omega arith) in
      let same_object : object ≡ top + o = omega arith in
      let same_row : row ≡ top + r = omega arith in
      subst (λ x. Child nodes x (top + r)) same_object (subst (Child nodes object) same_row k)

  noted-parents : Parents top nodes xs → Parents top nodes ys
  noted-parents p = record { child = λ r o h is. go r o h is (ℕ_discrete r (row - top)) }
    where
      go : (r o : ℕ) → r < room → slot_at ys (parent_slot r) ≡ suc o → Dec (r ≡ row - top) → Child nodes (top + o) (top + r)
      go r o h is (yes e) = noted_here r o e is
      go r o h is (no n) =
          let other : slot_at ys (parent_slot r) ≡ slot_at xs (parent_slot r) =
          ap (λ zs. slot_at zs (parent_slot r)) stored ∙ slot_other xs (parent_slot (row - top)) (parent_slot r) _ (λ e. n (omega arith)) in
          p.child r o h (sym other ∙ is)

  indexed_noted : Indexed top nodes xs ys
  indexed_noted =
      record {
        parents = noted-parents;
        beyond = ap (drop slots) stored ∙ slot_behind xs (parent_slot (row - top)) (object - top + 1) slots (omega arith);
      }

-- ---- the members of one object: so far only their parents are noted, and every child from `row` on is a child from the object's first member on
pub record Indexing (nodes : List Row) (top object : ℕ) (xs ys : List ℕ) (row : ℕ) : Type 0 where
  pub indexed : Indexed top nodes xs ys
  pub above : object < row
  pub onward : (r : ℕ) → Among nodes (object + 1 + span_of (get_or nodes object [])) r row
      → Among nodes (object + 1 + span_of (get_or nodes object [])) r (object + 1)

pub indexing_none : {nodes : List Row} {top object : ℕ} {xs : List ℕ} → Indexing nodes top object xs xs (object + 1)
indexing_none = record { indexed = indexed_self; above = omega arith; onward = λ r a. a }

pub indexing_next : {w : Table} {top object : ℕ} {xs ys zs : List ℕ} {row : ℕ} {name : Name} {r : Bool} → Indexing w.nodes top object xs ys row
    → top ≤ object → slots ≤ length zs → row < scratch_row → row < top + room → row < object + 1 + span_of (get_or w.nodes object [])
    → Entered w ys top object row name zs r → {slot : ℕ} → slot ≡ parent_slot (row - top) → (ws : List ℕ) → ws ≡ slot_set zs slot (object - top + 1)
    → (next : ℕ) → next ≡ row + 1 + span_of (get_or w.nodes row []) → Indexing w.nodes top object xs ws next
indexing_next {w} {top} {object} {xs} {ys} {zs} {row} i low long here near inside entered place ws stored next is =
    let child : Child w.nodes object row = record { low = here; among = i.onward row (first inside) } in
    let put : ws ≡ slot_set zs (parent_slot (row - top)) (object - top + 1) = stored ∙ ap (λ s. slot_set zs s (object - top + 1)) place in
    let noted-too : Indexed top w.nodes zs ws = indexed_noted zs ws put child low i.above near long in
    record {
      indexed = indexed_on i.indexed (indexed_on (indexed_entered entered) noted-too);
      above = omega (arith, i.above);
      onward = λ r a. i.onward r (later inside (subst (Among w.nodes (object + 1 + span_of (get_or w.nodes object [])) r) is a));
    }

-- ---- an empty index: nothing is noted
module _ (xs ys : List ℕ) (is : ys ≡ emptied xs) where
  empty_parents : {top : ℕ} {nodes : List Row} → slots ≤ length xs → Parents top nodes ys
  empty_parents long =
      record { child = λ r o h e. absurd (omega (arith, ap (λ zs. slot_at zs (parent_slot r)) is, empty_slot xs (parent_slot r) long (omega arith))) }

  pub emptied-length : length ys ≡ length xs
  emptied-length = ap length is ∙ (empty_beyond xs).same_length

  -- and then entered
  pub tree_indexed : {top : ℕ} {nodes : List Row} {zs : List ℕ} → slots ≤ length ys → Indexed top nodes ys zs → TreeIndexed top nodes xs zs
  tree_indexed long i =
      record {
        parents = λ l. i.parents (empty_parents l);
        beyond = i.beyond ∙ ap (drop slots) is ∙ (empty_beyond xs).beyond;
        short = λ h. absurd (omega (arith, emptied-length));
      }

  -- where the memory is too short
  pub tree_not_indexed : {top : ℕ} {nodes : List Row} → length ys < slots → TreeIndexed top nodes xs ys
  tree_not_indexed short =
      record {
        parents = λ l. absurd (omega (arith, emptied-length));
        beyond = ap (drop slots) is ∙ (empty_beyond xs).beyond;
        short = λ h. is ∙ empty_short xs h;
      }
