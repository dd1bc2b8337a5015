-- Equality of values: RFC 6902, section 4.6; SPECIFICATION 7. Zeros: SPECIFICATION 7.4, T-04.
use Rattle.std.specs.Prelude.{Bool, true, false, ◌&&◌, not, eqb, ℤ, pos, negsuc, if◌then◌else◌}
use Rattle.spec.specs.Bytes.{Text}
use Rattle.spec.specs.Worth.{Worth, worth}
use Rattle.spec.specs.Forest.{none, tree, count}
use Rattle.spec.specs.Value as Value
use Rattle.spec.specs.Value.{Label, Members, tag, is_number, is_object, content, same_text}

unfoldable pub same_bool : Bool → Bool → Bool
same_bool true b = b
same_bool false b = not b

unfoldable pub same_integer : ℤ → ℤ → Bool
same_integer (pos m) (pos n) = eqb m n
same_integer (pos m) (negsuc n) = false
same_integer (negsuc m) (pos n) = false
same_integer (negsuc m) (negsuc n) = eqb m n

-- numbers by their exact values: SPECIFICATION 7.3; a zero has no sign (Worth)
unfoldable pub same_worth : Worth → Worth → Bool
same_worth v w =
    same_bool v.negative w.negative && (same_text v.significand w.significand && same_integer v.power w.power)

-- scalars of the same type: strings by unescaped text, literals by kind, numbers by what they are worth: SPECIFICATION 7.1
unfoldable pub same_label : Label → Label → Bool
same_label l m =
    eqb (tag l) (tag m) &&
    (if is_number l then same_worth (worth (content l)) (worth (content m)) else same_text (content l) (content m))

-- the member of a name, with those after it
unfoldable pub from_name : Text → Members → Members
from_name n none = none
from_name n (tree e kids rest) = if same_text e.name n then tree e kids rest else from_name n rest

-- two values by their labels, by how many values are in them, and by whether those are equal
abbrev pub same_value : Label → Members → Label → Members → Bool → Bool
same_value l kids m below inside = same_label l m && (eqb (count kids) (count below) && inside)

unfoldable mutual
  -- arrays: "the elements are equal one by one"; of two arrays of the same length
  pub same_elements : Members → Members → Bool
  same_elements none g = true
  same_elements (tree e kids f) none = false
  same_elements (tree e kids f) (tree p below g) =
      same_value e.label kids p.label below (if is_object e.label then same_members kids below else same_elements kids below) && same_elements f g

  -- objects: "the same names, in any order, and the values of each name are equal"; of two objects with the same number of members
  pub same_members : Members → Members → Bool
  same_members none g = true
  same_members (tree e kids f) g =
      elim (from_name e.name g) [
        | none ↦ false
        | tree p below after ↦
            same_value e.label kids p.label below (if is_object e.label then same_members kids below else same_elements kids below) && same_members f g
      ]

unfoldable pub equal : Value.Value → Value.Value → Bool
equal v w =
    same_value v.label v.kids w.label w.kids
    (if is_object v.label then same_members v.kids w.kids else same_elements v.kids w.kids)
