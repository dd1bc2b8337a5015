-- Names that are not repeated: SPECIFICATION 2.2, number 4, and SPECIFICATION 3.4.
use Rattle.std.specs.Prelude.{◌≡◌, Bool, true, false}
use Rattle.spec.specs.Forest.{none, tree}
use Rattle.spec.specs.Value as Value
use Rattle.spec.specs.Value.{Entry, Members, is_object, has}

-- No object has two members of one name, at any depth. The first argument says whether the values are an object's members, which have
-- names, or an array's elements, which have none.
pub data NoRepeats : Bool → Members → Type 0 where
  empty : {object : Bool} → NoRepeats object none
  element : {e : Entry} {kids rest : Members} → NoRepeats (is_object e.label) kids → NoRepeats false rest → NoRepeats false (tree e kids rest)
  member : {e : Entry} {kids rest : Members} → has e.name rest ≡ false → NoRepeats (is_object e.label) kids → NoRepeats true rest →
      NoRepeats true (tree e kids rest)

abbrev pub Distinct : Value.Value → Type 0
Distinct v = NoRepeats (is_object v.label) v.kids
