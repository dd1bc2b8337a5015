-- Arrays and objects in one function, for the laws that hold of both: `compared_items false` is `compared_elements`, `compared_items true` is
-- `compared_members`.
use Rattle.std.specs.Prelude.{if◌then◌else◌}
use Prim.Native.Nat.{ℕ}
use native.Mathlib.Nat.{add_assoc}
use mathlib.Core.Path.{◌≡◌, refl, ap, sym, ◌∙◌}
use mathlib.Core.Bool.{Bool, true, false}
use lib.Dec.{eqb}
use Rattle.spec.specs.Bytes.{Text}
use Rattle.spec.specs.Forest.{none, tree, count}
use Rattle.spec.specs.Value as Value
use Rattle.spec.specs.Value.{Members, is_object}
use Rattle.spec.specs.Equality.{same_label, from_name}
use Rattle.spec.proofs.MatchLaws.{partner, partner_named}
use Rattle.comparison.specs.Comparison.{Compared, after, ◌then◌, lookups, compared_elements, compared_members, compared}

-- to find the partner of an element no name is compared
unfoldable pub searched : Bool → Text → Members → ℕ
searched object n g = if object then lookups n g else 0

-- each value of one container against its partner in the other; `object` says which kind they are
unfoldable pub compared_items : Bool → Members → Members → Compared
compared_items object none g = after 0 true
compared_items object (tree e kids f) g =
    elim (partner object e.name g) [
      | none ↦ after (searched object e.name g) false
      | tree p below rest ↦
          after (searched object e.name g) (same_label e.label p.label) then
          (after 0 (eqb (count kids) (count below)) then
          (compared_items (is_object e.label) kids below then compared_items object f (if object then g else rest)))
    ]

pub then_assoc : (a b c : Compared) → ((a then b) then c) ≡ (a then (b then c))
unfolding ◌then◌
then_assoc a b c = go a.same b.same
  where
    go : (s t : Bool) → ((after a.names s then after b.names t) then c) ≡ (after a.names s then (after b.names t then c))
    go true true = ap (λ k. after k c.same) (add_assoc a.names b.names c.names)
    go true false = refl
    go false t = refl

then_three : (a b c d : Compared) → (a then (b then (c then d))) ≡ ((a then (b then c)) then d)
then_three a b c d = ap (λ x. a then x) (sym (then_assoc b c d)) ∙ sym (then_assoc a (b then c) d)

pub items_are : (f : Members) (object : Bool) (g : Members) → compared_items object f g ≡ (if object then compared_members f g else compared_elements f g)
unfolding compared_items searched partner compared_elements compared_members
items_are none true g = refl
items_are none false g = refl
items_are (tree e kids f) false none = refl
items_are (tree e kids f) false (tree p below g) =
    rw (items_are kids (is_object e.label) below, items_are f false g)
    (then_three (after 0 (same_label e.label p.label)) (after 0 (eqb (count kids) (count below))) _ _)
items_are (tree e kids f) true g =
    go (partner true e.name g) (from_name e.name g) (partner_named e.name g) (items_are kids (is_object e.label)) (items_are f true g)
  where
    go : (m n : Members) → m ≡ n →
        ((below : Members) → compared_items (is_object e.label) kids below
        ≡ (if is_object e.label then compared_members kids below else compared_elements kids below)) →
        compared_items true f g ≡ compared_members f g →
        ◌≡◌ {A = Compared}
        (elim m [
          | none ↦ after (lookups e.name g) false
          | tree p below rest ↦
              after (lookups e.name g) (same_label e.label p.label) then
              (after 0 (eqb (count kids) (count below)) then (compared_items (is_object e.label) kids below then compared_items true f g))
        ])
        (elim n [
          | none ↦ after (lookups e.name g) false
          | tree p below rest ↦
              (after (lookups e.name g) (same_label e.label p.label) then
              (after 0 (eqb (count kids) (count below)) then
              (if is_object e.label then compared_members kids below else compared_elements kids below)))
              then compared_members f g
        ])
    go none n same inside others = rw (← same)
    go (tree p below rest) n same inside others =
        rw (← same, inside below, others)
        (then_three (after (lookups e.name g) (same_label e.label p.label)) (after 0 (eqb (count kids) (count below))) _ _)

pub compared_is : (v w : Value.Value) → compared v w ≡
    (after 0 (same_label v.label w.label) then
    (after 0 (eqb (count v.kids) (count w.kids)) then compared_items (is_object v.label) v.kids w.kids))
unfolding compared
compared_is v w = rw (items_are v.kids (is_object v.label) w.kids)
