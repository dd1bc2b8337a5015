-- What the call with a region that lists origins promises, on every input: the whole answer, and all lent memory afterwards, as equations with the
-- definition `answer_within` of crate origin_within.
use Rattle.std.specs.Prelude.{ℕ, ◌≡◌, List, [], ◌∷◌}
use Rattle.spec.specs.Bytes.{Bytes}
use Rattle.tape.specs.Lent.{Texts}
use Rattle.origin_within.specs.Answer.{answer_within}
use Rattle.json_patch.specs.declared.answer.Answer.{Answer}
use Rattle.listing.specs.Call.{ListMemory, lending_of, CalledIs}

-- ---- the contract
abbrev pub ApplyWithinListingIs : Texts → Bytes → ListMemory → ListMemory → Answer → Type 0
ApplyWithinListingIs T region m m' r = CalledIs (answer_within T.document T.patch region (lending_of m)) m m' r

-- the same for C: the answer's fields in their order, and its number
pub record ExportIs (T : Texts) (region : Bytes) (m m' : ListMemory) (fields : List ℕ) (number : ℕ) : Type 0 where
  pub answer : Answer
  pub applies : ApplyWithinListingIs T region m m' answer
  pub fields_are : fields ≡ answer.number ∷ answer.text ∷ answer.op ∷ answer.place ∷ answer.pointer ∷ answer.length ∷ []
  pub number_is : number ≡ answer.number
