-- Examples of SPECIFICATION 4.4, 5.2, 6.2, 6.5, 7.2 and 7.3, and of zeros, SPECIFICATION 7.4: whole answers. proofs/ExamplesTheorem proves them
-- by computation.
use Rattle.std.specs.Prelude.{◌≡◌, ℕ, List, [], ◌∷◌}
use Prim.Native.String.{String}
use Rattle.spec.specs.Limits.{work_nodes, work_entries}
use Rattle.spec.specs.Bytes.{ascii}
use Rattle.spec.specs.Patch.{stop}
use Rattle.spec.specs.Answer.{Lent, answer, success, failure}

-- a document and a patch with the text that is written, or with the number of the refusal, op, place and pointer
pub data Example : Type 0 where
  gives : String → String → String → Example
  fails : String → String → ℕ → ℕ → ℕ → ℕ → Example

-- the buffers that the patch tool lends
abbrev pub lent : Lent
lent = record { output = 65_536; nodes = work_nodes; index = work_entries }

abbrev pub Holds : Example → Type 0
Holds (gives d p text) = answer (ascii d) (ascii p) lent ≡ success (ascii text)
Holds (fails d p number op place pointer) = answer (ascii d) (ascii p) lent ≡ failure (stop number op place pointer)

abbrev pub All : List Example → Type 0
All [] = Unit {0}
All (e ∷ es) = Holds e × All es

abbrev pub starred : List Example
starred =
    gives "{\"a\":[1,3]}" "[{\"op\":\"add\",\"path\":\"/a/1\",\"value\":2}]" "{\"a\":[1,2,3]}" ∷
    gives "{\"a\":[1,3]}" "[{\"op\":\"add\",\"path\":\"/a/2\",\"value\":2}]" "{\"a\":[1,3,2]}" ∷
    gives "{\"a\":[1,3]}" "[{\"op\":\"add\",\"path\":\"/a/-\",\"value\":2}]" "{\"a\":[1,3,2]}" ∷
    fails "{\"a\":[1,3]}" "[{\"op\":\"add\",\"path\":\"/a/3\",\"value\":2}]" 11 1 1 1 ∷
    fails "{\"a\":[1,3]}" "[{\"op\":\"add\",\"path\":\"/a/01\",\"value\":2}]" 12 1 1 1 ∷
    gives "{\"a\":[1,2,3]}" "[{\"op\":\"move\",\"from\":\"/a/0\",\"path\":\"/a/2\"}]" "{\"a\":[2,3,1]}" ∷
    fails "{\"a\":[1,2,3]}" "[{\"op\":\"move\",\"from\":\"/a/0\",\"path\":\"/a/3\"}]" 11 1 1 1 ∷
    gives "{\"a\":1,\"b\":2}" "[{\"op\":\"move\",\"from\":\"/a\",\"path\":\"/b\"}]" "{\"b\":1}" ∷
    fails "{\"a\":{\"b\":1}}" "[{\"op\":\"move\",\"from\":\"/a\",\"path\":\"/a/b\"}]" 14 1 0 0 ∷
    gives "{\"a\":{\"b\":1}}" "[{\"op\":\"move\",\"from\":\"/a/b\",\"path\":\"/a\"}]" "{\"a\":1}" ∷
    gives "{\"a/b\":1}" "[{\"op\":\"replace\",\"path\":\"/a~1b\",\"value\":5}]" "{\"a/b\":5}" ∷
    gives "4400" "[{\"op\":\"test\",\"path\":\"\",\"value\":4.4e3}]" "4400" ∷
    fails "9007199254740993" "[{\"op\":\"test\",\"path\":\"\",\"value\":9007199254740992}]" 15 1 0 0 ∷
    []

-- T-04: "a zero of either sign, with any exponent, equals any other", and nothing else; it is written as it stands.
abbrev pub zeros : List Example
zeros =
    gives "[-0,0,0.0,-0e5,0E-9999]" "[{\"op\":\"test\",\"path\":\"\",\"value\":[0E-9999,-0,0,0.0,-0e5]}]" "[-0,0,0.0,-0e5,0E-9999]" ∷
    gives "{\"a\":[{\"b\":0}]}" "[{\"op\":\"test\",\"path\":\"\",\"value\":{\"a\":[{\"b\":-0}]}}]" "{\"a\":[{\"b\":0}]}" ∷
    fails "-0" "[{\"op\":\"test\",\"path\":\"\",\"value\":-1e-9999}]" 15 1 0 0 ∷
    fails "1" "[{\"op\":\"test\",\"path\":\"\",\"value\":-1}]" 15 1 0 0 ∷
    []
