-- Arrays and objects in one function, for the laws that hold of both: `matches false` is `same_elements`, `matches true` is `same_members`.
use Rattle.std.specs.Prelude.{if◌then◌else◌}
use mathlib.Core.Path.{◌≡◌, refl, ap}
use mathlib.Core.Bool.{Bool, true, false, ◌&&◌}
use lib.Dec.{eqb}
use Rattle.spec.specs.Bytes.{Text}
use Rattle.spec.specs.Forest.{none, tree, count}
use Rattle.spec.specs.Value as Value
use Rattle.spec.specs.Value.{Entry, Members, is_object, same_text}
use Rattle.spec.specs.Equality.{same_label, from_name, same_elements, same_members, equal}

-- What the next value of a container is compared with, and what follows that: in an array the next element, in an object the member of
-- its name.
unfoldable pub partner : Bool → Text → Members → Members
partner false n g = g
partner true n none = none
partner true n (tree e kids rest) = if same_text e.name n then tree e kids rest else partner true n rest

-- each value of one container against its partner in the other, which has as many; `object` says which kind they are
unfoldable pub matches : Bool → Members → Members → Bool
matches object none g = true
matches object (tree e kids f) g =
    elim (partner object e.name g) [
      | none ↦ false
      | tree p below after ↦
          same_label e.label p.label &&
          (eqb (count kids) (count below) && (matches (is_object e.label) kids below && matches object f (if object then g else after)))
    ]

pub partner_named : (n : Text) (g : Members) → partner true n g ≡ from_name n g
unfolding partner from_name
partner_named n none = refl
partner_named n (tree e kids rest) = ap (λ m. if same_text e.name n then tree e kids rest else m) (partner_named n rest)

and_three : (a b c d : Bool) → (a && (b && (c && d))) ≡ ((a && (b && c)) && d)
and_three true true c d = refl
and_three true false c d = refl
and_three false b c d = refl

pub matches_is : (f : Members) (object : Bool) (g : Members) → matches object f g ≡ (if object then same_members f g else same_elements f g)
unfolding matches partner same_elements same_members
matches_is none true g = refl
matches_is none false g = refl
matches_is (tree e kids f) false none = refl
matches_is (tree e kids f) false (tree p below g) =
    rw (matches_is kids (is_object e.label) below, matches_is f false g)
    (and_three (same_label e.label p.label) (eqb (count kids) (count below)) _ _)
matches_is (tree e kids f) true g =
    go (partner true e.name g) (from_name e.name g) (partner_named e.name g) (matches_is kids (is_object e.label)) (matches_is f true g)
  where
    go : (m n : Members) → m ≡ n →
        ((below : Members) → matches (is_object e.label) kids below ≡ (if is_object e.label then same_members kids below else same_elements kids below)) →
        matches true f g ≡ same_members f g →
        ◌≡◌ {A = Bool}
        (elim m [
          | none ↦ false
          | tree p below after ↦
              same_label e.label p.label &&
              (eqb (count kids) (count below) && (matches (is_object e.label) kids below && matches true f g))
        ])
        (elim n [
          | none ↦ false
          | tree p below after ↦
              (same_label e.label p.label &&
              (eqb (count kids) (count below) && (if is_object e.label then same_members kids below else same_elements kids below)))
              && same_members f g
        ])
    go none n same inside others = rw (← same)
    go (tree p below after) n same inside others =
        rw (← same, inside below, others) (and_three (same_label e.label p.label) (eqb (count kids) (count below)) _ _)

pub equal_is : (v w : Value.Value) → equal v w ≡
    (same_label v.label w.label && (eqb (count v.kids) (count w.kids) && matches (is_object v.label) v.kids w.kids))
unfolding equal
equal_is v w = rw (matches_is v.kids (is_object v.label) w.kids)
