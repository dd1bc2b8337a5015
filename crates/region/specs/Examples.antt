-- Whole answers within a region, those of docs/SPECIFICATION.md, 15.3, and more, and a patch that keeps the rule. proofs/ExamplesTheorem proves
-- them by computation.
use Rattle.std.specs.Prelude.{◌≡◌, ℕ, List, [], ◌∷◌}
use Prim.Native.String.{String}
use Rattle.spec.specs.Bytes.{Bytes, ascii}
use Rattle.spec.specs.Answer.{success, refusal}
use Rattle.spec.specs.Examples.{lent}
use Rattle.region.specs.Answer.{answer_within}
use Rattle.region.specs.Claims.{Passes}

-- a region, a document and a patch with the text that is written, or with the refusal's number, text, op and place
pub data Example : Type 0 where
  gives : String → String → String → String → Example
  fails : String → String → String → ℕ → ℕ → ℕ → ℕ → Example

abbrev pub Holds : Example → Type 0
Holds (gives r d p text) = answer_within (ascii d) (ascii p) (ascii r) lent ≡ success (ascii text)
Holds (fails r d p number text op place) = answer_within (ascii d) (ascii p) (ascii r) lent ≡ refusal number text op place

abbrev pub All : List Example → Type 0
All [] = Unit {0}
All (e ∷ es) = Holds e × All es

abbrev pub answers : List Example
answers =
    gives "/m" "{\"m\":{\"a\":1}}" "[{\"op\":\"test\",\"path\":\"/m/a\",\"value\":1}]" "{\"m\":{\"a\":1}}" ∷
    -- the path is the region
    fails "/m/a" "{\"m\":{\"a\":1}}" "[{\"op\":\"test\",\"path\":\"/m/a\",\"value\":1}]" 17 0 1 0 ∷
    -- another token
    fails "/m" "{\"mm\":1}" "[{\"op\":\"test\",\"path\":\"/mm\",\"value\":1}]" 17 0 1 0 ∷
    -- no test
    fails "/m" "{\"m\":{\"a\":1}}" "[{\"op\":\"replace\",\"path\":\"/m/a\",\"value\":2}]" 17 0 1 0 ∷
    fails "/m" "{\"m\":{\"a\":1}}" "[{\"op\":\"move\",\"from\":\"/m\",\"path\":\"/m/a\"}]" 14 0 1 0 ∷
    fails "/m" "{\"m\":{\"a\":1}}" "[]" 17 0 0 0 ∷
    fails "m" "{\"m\":{\"a\":1}}" "[" 3 2 0 1 ∷
    fails "m" "{\"m\":{\"a\":1}}" "[]" 10 0 0 0 ∷
    -- escapes of the pointer, and of the JSON string
    gives "/a~1b" "{\"a/b\":[3]}" "[{\"op\":\"test\",\"path\":\"\\u002fa~1b/0\",\"value\":3}]" "{\"a/b\":[3]}" ∷
    -- makers send no remove
    fails "/m" "{\"m\":{\"a\":1}}" "[{\"op\":\"test\",\"path\":\"/m/a\",\"value\":1},{\"op\":\"remove\",\"path\":\"/m/a\"}]" 17 0 2 0 ∷
    []

-- a patch that keeps the rule in its region
abbrev pub region : Bytes
region = ascii "/0/cell"

abbrev pub patch : Bytes
patch = ascii "[{\"op\":\"test\",\"path\":\"/0/cell/mAh\",\"value\":3000},{\"op\":\"replace\",\"path\":\"/0/cell/mAh\",\"value\":3100}]"

pub record ExamplesStatement : Type 0 where
  pub answers_hold : All answers
  pub keeps : Passes region patch
  pub tokens_are : keeps.tokens ≡ ascii "0" ∷ ascii "cell" ∷ []
