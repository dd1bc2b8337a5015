-- What the call with a region promises, on every input: the whole answer, and all lent memory afterwards, as equations with the definition
-- `answer_within`. What the memory is, and what becomes of the work area, is as in the plain call.
use Rattle.std.specs.Prelude.{ℕ, ◌≡◌, List, [], ◌∷◌}
use Rattle.spec.specs.Limits.{work_nodes, work_entries}
use Rattle.spec.specs.Bytes.{Bytes}
use Rattle.spec.specs.Answer.{work_suffices}
use Rattle.tape.specs.Fields.{no_node}
use Rattle.tape.specs.Lent.{Texts}
use Rattle.json_patch.specs.Call.{Memory, lent_of, Answered, wiped}
use Rattle.json_patch.specs.declared.answer.Answer.{Answer}
use Rattle.region.specs.Answer.{answer_within}

-- ---- the contract
pub record ApplyWithinIs (T : Texts) (region : Bytes) (m m' : Memory) (r : Answer) : Type 0 where
  pub answered : Answered (answer_within T.document T.patch region (lent_of m)) m.output m'.output r
  pub nodes-after : m'.nodes ≡ wiped (work_suffices (lent_of m)) work_nodes no_node m.nodes
  pub index_after : m'.index ≡ wiped (work_suffices (lent_of m)) work_entries 0 m.index

-- the same for C: the answer's fields in their order, and its number
pub record ExportIs (T : Texts) (region : Bytes) (m m' : Memory) (fields : List ℕ) (number : ℕ) : Type 0 where
  pub answer : Answer
  pub applies : ApplyWithinIs T region m m' answer
  pub fields_are : fields ≡ answer.number ∷ answer.text ∷ answer.op ∷ answer.place ∷ answer.pointer ∷ answer.length ∷ []
  pub number_is : number ≡ answer.number
