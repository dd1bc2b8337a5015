-- What the call for merge patches that lists origins promises, on every input: the whole answer, and all lent memory afterwards, as equations with the
-- definition `merge_answer` of crate origin.
use Rattle.std.specs.Prelude.{ℕ, ◌≡◌, List, [], ◌∷◌}
use Rattle.tape.specs.Lent.{Texts}
use Rattle.origin.specs.Answer.{merge_answer}
use Rattle.json_patch.specs.declared.answer.Answer.{Answer}
use Rattle.listing.specs.Call.{ListMemory, lending_of, CalledIs}

-- ---- the contract
abbrev pub MergeListingIs : Texts → ListMemory → ListMemory → Answer → Type 0
MergeListingIs T m m' r = CalledIs (merge_answer T.document T.patch (lending_of m)) m m' r

-- the same for C: the answer's fields in their order, and its number
pub record ExportIs (T : Texts) (m m' : ListMemory) (fields : List ℕ) (number : ℕ) : Type 0 where
  pub answer : Answer
  pub merges : MergeListingIs T m m' answer
  pub fields_are : fields ≡ answer.number ∷ answer.text ∷ answer.op ∷ answer.place ∷ answer.pointer ∷ answer.length ∷ []
  pub number_is : number ≡ answer.number
