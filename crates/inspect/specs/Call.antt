-- What the call promises, on every input: the whole answer, and all lent memory afterwards, as equations with the definition `inspection_in`.
use Rattle.std.specs.Prelude.{ℕ, ◌≡◌, Bool, List, [], ◌∷◌, length}
use Rattle.spec.specs.Limits.{work_nodes, work_entries}
use Rattle.spec.specs.Bytes.{Bytes}
use Rattle.spec.specs.Answer.{work_suffices}
use Rattle.tape.specs.Fields.{no_node}
use Rattle.reader.specs.Work.{Work}
use Rattle.json_patch.specs.Call.{wiped}
use Rattle.inspection.specs.Inspection.{Inspection, accepted, refusal, inspection_in}
use Rattle.inspect.specs.Counts.{counts_in}
use Rattle.inspect.specs.declared.counts.Counts.{Counts}
use Rattle.inspect.specs.declared.answer.Answer.{Answer}

-- the answer as an inspection
abbrev pub told : Answer → Inspection
told r = record { number = r.number; text = r.text; op = r.op; place = r.place; counts = counts_in r.counts }

-- ---- the two kinds of answers
abbrev pub AcceptedIs : Counts → Answer → Type 0
AcceptedIs counts r = told r ≡ accepted (counts_in counts)

abbrev pub RefusalIs : ℕ → ℕ → ℕ → ℕ → Answer → Type 0
RefusalIs number text op place r = told r ≡ refusal number text op place

-- whether what is lent suffices; no output is lent
abbrev pub enough : Work → Bool
enough w = work_suffices (record { output = 0; nodes = length w.nodes; index = length w.index })

-- ---- the contract. The work area afterwards is as the plain call leaves it, SPECIFICATION 2.4: after a 1, no buffer has changed. After any other answer the
-- work area is all zero; where a work buffer is longer than stated, the part beyond is unchanged.
pub record InspectIs (patch : Bytes) (w w' : Work) (r : Answer) : Type 0 where
  pub inspected : told r ≡ inspection_in (enough w) patch
  pub nodes-after : w'.nodes ≡ wiped (enough w) work_nodes no_node w.nodes
  pub index_after : w'.index ≡ wiped (enough w) work_entries 0 w.index

-- the same for C: the answer's fields in their order, and its number
pub record ExportIs (patch : Bytes) (w w' : Work) (fields : List ℕ) (number : ℕ) : Type 0 where
  pub answer : Answer
  pub inspects : InspectIs patch w w' answer
  pub fields_are :
      fields ≡
      answer.number ∷ answer.text ∷ answer.op ∷ answer.place ∷ answer.counts.adds ∷ answer.counts.removes ∷ answer.counts.replaces
      ∷ answer.counts.moves ∷ answer.counts.copies ∷ answer.counts.tests ∷ []
  pub number_is : number ≡ answer.number
