-- Demand 3, closed: what SPECIFICATION 9.4 says, for every document, every two patches and every shuffle of them that it speaks of.
-- proofs/Demand3Theorem proves it.
use Rattle.std.specs.Prelude.{◌≡◌, List, [], ◌∷◌}
use Rattle.spec.specs.Bytes.{Bytes, ascii}
use Rattle.spec.specs.Value as Value
use Rattle.spec.specs.Pointer.{Tokens}
use Rattle.spec.specs.Operation.{Operation}
use Rattle.spec.specs.Answer.{Lent}
use Rattle.spec.specs.Elements.{ElementsOf}
use Rattle.spec.specs.Region.{WellFormed, Situation, RegionStatement}
use Rattle.spec.specs.Examples.{lent}

-- Two patches in regions of their own, and a shuffle of them: the second's element stands between those of the first, after a blank.

abbrev pub document : Bytes
document = ascii "{\"a\":{\"x\":1},\"b\":{\"y\":2}}"

abbrev pub first : Bytes
first = ascii "[{\"op\":\"remove\",\"path\":\"/a/x\"},{\"op\":\"add\",\"path\":\"/a/z\",\"value\":3}]"

abbrev pub second : Bytes
second = ascii "[{\"op\":\"copy\",\"from\":\"/b/y\",\"path\":\"/b/z\"}]"

abbrev pub shuffle : Bytes
shuffle =
    ascii
    "[{\"op\":\"remove\",\"path\":\"/a/x\"}, {\"op\":\"copy\",\"from\":\"/b/y\",\"path\":\"/b/z\"},{\"op\":\"add\",\"path\":\"/a/z\",\"value\":3}]"

abbrev pub first_region : Tokens
first_region = ascii "a" ∷ []

abbrev pub second_region : Tokens
second_region = ascii "b" ∷ []

-- the situation of this example, with what the texts are read as
pub record Example : Type 0 where
  pub read_as : Value.Value
  pub first-operations : List Operation
  pub second-operations : List Operation
  pub operations : List Operation
  pub situation : Situation document first second shuffle lent first_region second_region read_as first-operations second-operations operations

pub record Demand3 : Type 0 where
  pub shuffles : (D P Q Z : Bytes) (lent : Lent) (R S : Tokens) (d : Value.Value) (xs ys zs : List Operation) →
      (c : Situation D P Q Z lent R S d xs ys zs) → RegionStatement c
  -- there is such a situation
  pub example : Example
  -- the elements of a well-formed patch are there,
  pub elements-there : (P : Bytes) (os : List Operation) → WellFormed P os → (es : List Bytes) × ElementsOf P es
  -- and no other texts are its elements
  pub elements-unique : (P : Bytes) (os : List Operation) (es fs : List Bytes) → WellFormed P os → ElementsOf P es → ElementsOf P fs → es ≡ fs
