-- The verdict is that of equality, and the count is bounded: specs/Comparison.
use Rattle.std.specs.Prelude.{if◌then◌else◌}
use Prim.Native.Nat.{suc, ◌+◌, ◌*◌, ◌≤◌}
use mathlib.Core.Path.{◌≡◌, refl, ap, sym, ◌∙◌}
use mathlib.Core.Bool.{Bool, true, false, ◌&&◌}
use native.Mathlib.Nat.{suc-mul, add-mul, mul-le-mul_left, mul-le-mul}
use native.Mathlib.Omega.{arith}
use lib.Dec.{eqb}
use Rattle.spec.specs.Bytes.{Text}
use Rattle.spec.specs.Forest.{none, tree, count, size}
use Rattle.spec.specs.Value as Value
use Rattle.spec.specs.Value.{Members, is_object, same_text, nodes}
use Rattle.spec.specs.Equality.{same_label}
use Rattle.spec.proofs.MatchLaws.{partner, matches, equal_is}
use Rattle.comparison.specs.Comparison.{Compared, after, ◌then◌, lookups, compared, ComparisonStatement}
use Rattle.comparison.proofs.ItemLaws.{searched, compared_items, compared_is}

-- The verdict

then_same : (a b : Compared) → (a then b).same ≡ (a.same && b.same)
unfolding ◌then◌
then_same a b = go a.same refl
  where
    go : (s : Bool) → a.same ≡ s → (if s then after (a.names + b.names) b.same else a).same ≡ (s && b.same)
    go true e = refl
    go false e = e

items_same : (object : Bool) (f g : Members) → (compared_items object f g).same ≡ matches object f g
unfolding compared_items matches
items_same object none g = refl
items_same object (tree e kids f) g =
    go (partner object e.name g) (items_same (is_object e.label) kids) (items_same object f)
  where
    go : (p : Members) → ((h : Members) → (compared_items (is_object e.label) kids h).same ≡ matches (is_object e.label) kids h) →
        ((h : Members) → (compared_items object f h).same ≡ matches object f h) →
        (elim p as (λ _. Compared) [
          | none ↦ after (searched object e.name g) false
          | tree p below rest ↦
              after (searched object e.name g) (same_label e.label p.label) then
              (after 0 (eqb (count kids) (count below)) then
              (compared_items (is_object e.label) kids below then compared_items object f (if object then g else rest)))
        ]).same ≡
        elim p [
          | none ↦ false
          | tree p below rest ↦
              same_label e.label p.label &&
              (eqb (count kids) (count below) && (matches (is_object e.label) kids below && matches object f (if object then g else rest)))
        ]
    go none below others = refl
    go (tree p kids' rest) below others = rw (then_same, then_same, then_same, below kids', others (if object then g else rest))

-- The bound

lookups_few : (n : Text) (g : Members) → lookups n g ≤ count g
unfolding lookups count
lookups_few n none = omega arith
lookups_few n (tree e kids rest) = go (same_text e.name n) (lookups_few n rest)
  where
    go : (b : Bool) → lookups n rest ≤ count rest → (if b then 1 else 1 + lookups n rest) ≤ suc (count rest)
    go true h = omega arith
    go false h = omega arith

count-size : (g : Members) → count g ≤ size g
unfolding count size
count-size none = omega arith
count-size (tree e kids rest) = omega (arith, count-size rest)

-- a partner and what follows it are among the others
partner_within : (object : Bool) (n : Text) (g : Members) → size (partner object n g) ≤ size g
unfolding partner size
partner_within false n g = omega arith
partner_within true n none = omega arith
partner_within true n (tree e kids rest) = go (same_text e.name n) (partner_within true n rest)
  where
    go : (b : Bool) → size (partner true n rest) ≤ size rest → size (if b then tree e kids rest else partner true n rest) ≤ suc (size kids + size rest)
    go true h = omega arith
    go false h = omega arith

then_names : (a b : Compared) → (a then b).names ≤ a.names + b.names
unfolding ◌then◌
then_names a b = go a.same
  where
    go : (s : Bool) → (if s then after (a.names + b.names) b.same else a).names ≤ a.names + b.names
    go true = omega arith
    go false = omega arith

searched_few : (object : Bool) (n : Text) (g : Members) → searched object n g ≤ size g
unfolding searched
searched_few true n g = omega (arith, lookups_few n g, count-size g)
searched_few false n g = omega arith

-- what is left after a search
left_within : (object : Bool) (g rest : Members) → size rest ≤ size g → size (if object then g else rest) ≤ size g
left_within true g rest h = omega arith
left_within false g rest h = h

items_bound : (object : Bool) (f g : Members) → (compared_items object f g).names ≤ size f * size g
unfolding compared_items size
items_bound object none g = omega arith
items_bound object (tree e kids f) g =
    go (partner object e.name g) (partner_within object e.name g) (items_bound (is_object e.label) kids) (items_bound object f)
  where
    product : suc (size kids + size f) * size g ≡ size kids * size g + size f * size g + size g
    product = suc-mul (size kids + size f) (size g) ∙ ap (λ k. k + size g) (add-mul (size kids) (size f) (size g))

    go : (p : Members) → size p ≤ size g → ((h : Members) → (compared_items (is_object e.label) kids h).names ≤ size kids * size h) →
        ((h : Members) → (compared_items object f h).names ≤ size f * size h) →
        (elim p as (λ _. Compared) [
          | none ↦ after (searched object e.name g) false
          | tree p below rest ↦
              after (searched object e.name g) (same_label e.label p.label) then
              (after 0 (eqb (count kids) (count below)) then
              (compared_items (is_object e.label) kids below then compared_items object f (if object then g else rest)))
        ]).names ≤ suc (size kids + size f) * size g
    go none within below others = omega (arith, product, searched_few object e.name g)
    go (tree p kids' rest) within below others =
        let left : Members = if object then g else rest in
        let inner = compared_items (is_object e.label) kids kids' in
        let later = compared_items object f left in
        let fewer : size kids * size kids' ≤ size kids * size g = mul-le-mul_left (size kids) (omega arith) in
        let fewer' : size f * size left ≤ size f * size g = mul-le-mul_left (size f) (left_within object g rest (omega arith)) in
        let both = inner then later in
        let counts = after 0 (eqb (count kids) (count kids')) in
        let labels = after (searched object e.name g) (same_label e.label p.label) in
        omega (
          arith,
          product,
          searched_few object e.name g,
          then_names labels (counts then both),
          then_names counts both,
          then_names inner later,
          below kids',
          others left,
          fewer,
          fewer',
        )

values_bound : (v w : Value.Value) → (compared v w).names ≤ size v.kids * size w.kids
values_bound v w =
    let is = ap (λ a. a.names) (compared_is v w) in
    let items = compared_items (is_object v.label) v.kids w.kids in
    let counts = after 0 (eqb (count v.kids) (count w.kids)) in
    omega (
      arith,
      then_names (after 0 (same_label v.label w.label)) (counts then items),
      then_names counts items,
      items_bound (is_object v.label) v.kids w.kids,
    )

pub comparison : ComparisonStatement
unfolding nodes
comparison =
    record {
      verdict = λ v w.
          ap (λ a. a.same) (compared_is v w) ∙ then_same (after 0 (same_label v.label w.label)) _ ∙
          ap (λ b. same_label v.label w.label && b)
          (then_same (after 0 (eqb (count v.kids) (count w.kids))) _ ∙
          ap (λ b. eqb (count v.kids) (count w.kids) && b) (items_same (is_object v.label) v.kids w.kids)) ∙
          sym (equal_is v w);
      bound = λ v w.
          let more : size v.kids * size w.kids ≤ nodes v * nodes w = mul-le-mul (omega arith) (omega arith) in
          omega (arith, values_bound v w);
      sharper = λ v w a b p q.
          let few : size v.kids ≡ a = omega arith in
          let few' : size w.kids ≡ b = omega arith in
          rw (← few, ← few') (values_bound v w);
    }
