-- The premises of specs/Sequence can be met: patches in a row by which a text is written, and by which one is refused.
use Rattle.std.specs.Prelude.{◌≡◌, List, [], ◌∷◌}
use Rattle.spec.specs.Bytes.{Bytes, ascii}
use Rattle.spec.specs.Operation.{Operation}
use Rattle.spec.specs.Patch.{stop}
use Rattle.spec.specs.Answer.{answer, success, failure}
use Rattle.spec.specs.Examples.{lent}
use Rattle.sequence.specs.Sequence.{InARow, WithinLimits, FirstRefused, AllInARow}

abbrev pub document : Bytes
document = ascii "{\"a\":[1,3]}"

abbrev pub first : Bytes
first = ascii "[{\"op\":\"add\",\"path\":\"/a/1\",\"value\":2}]"

abbrev pub second : Bytes
second = ascii "[{\"op\":\"move\",\"from\":\"/a/0\",\"path\":\"/a/2\"}]"

abbrev pub third : Bytes
third = ascii "[{\"op\":\"remove\",\"path\":\"/a/3\"}]"

-- the texts that the first two leave
abbrev pub once : Bytes
once = ascii "{\"a\":[1,2,3]}"

abbrev pub twice : Bytes
twice = ascii "{\"a\":[2,3,1]}"

-- the first two joined, and all three, with blanks
abbrev pub two : Bytes
two = ascii " [{\"op\":\"add\",\"path\":\"/a/1\",\"value\":2} , {\"op\":\"move\",\"from\":\"/a/0\",\"path\":\"/a/2\"}]"

abbrev pub three : Bytes
three =
    ascii "[ {\"op\":\"add\",\"path\":\"/a/1\",\"value\":2},{\"op\":\"move\",\"from\":\"/a/0\",\"path\":\"/a/2\"}, {\"op\":\"remove\",\"path\":\"/a/3\"} ]"

-- the third, then the first, joined
abbrev pub other : Bytes
other = ascii "[{\"op\":\"remove\",\"path\":\"/a/3\"},{\"op\":\"add\",\"path\":\"/a/1\",\"value\":2}]"

pub record ExamplesStatement : Type 0 where
  pub two_met : InARow document first once second two lent lent lent
  pub second_writes : answer once second lent ≡ success twice
  pub two_writes : answer document two lent ≡ success twice
  pub two-within : (xs : List Operation) × (ys : List Operation) × WithinLimits first second two xs ys
  pub three_met : AllInARow document (first ∷ second ∷ third ∷ []) three 2 (answer twice third lent) lent
  pub third_refused : answer twice third lent ≡ failure (stop 11 1 1 1)
  pub three_refused : answer document three lent ≡ failure (stop 11 3 1 1)
  pub other_met : FirstRefused twice third first other lent lent
  pub other_refused : answer twice other lent ≡ failure (stop 11 1 1 1)
