-- What the call promises, on every input: the whole answer, and all lent memory afterwards, as equations with the definition `comparison_in`.
use Rattle.std.specs.Prelude.{ℕ, ◌≡◌, Bool, List, [], ◌∷◌, length, if◌then◌else◌}
use Rattle.spec.specs.Limits.{work_nodes, work_entries}
use Rattle.spec.specs.Answer.{work_suffices}
use Rattle.comparison.specs.Comparison.{Compared}
use Rattle.comparison.specs.Call as Spec
use Rattle.comparison.specs.Call.{refusal, comparison_in}
use Rattle.tape.specs.Fields.{no_node}
use Rattle.tape.specs.Lent.{Texts}
use Rattle.reader.specs.Work.{Work}
use Rattle.json_patch.specs.Call.{wiped}
use Rattle.counting.specs.declared.values.Comparison.{Comparison}
use Rattle.compare.specs.declared.answer.Answer.{Answer}

-- the answer as that of the definition
abbrev pub told : Answer → Spec.Answer
told r = record { number = r.number; text = r.text; place = r.place; equal = r.equal; names = r.names }

-- ---- the two kinds of answers
abbrev pub as_compared : Comparison → Compared
as_compared c = record { same = c.same; names = c.names }

abbrev pub SuccessIs : Comparison → Answer → Type 0
SuccessIs c r = told r ≡ Spec.success (as_compared c)

abbrev pub RefusalIs : ℕ → ℕ → ℕ → Answer → Type 0
RefusalIs number text place r = told r ≡ refusal number text place

-- whether what is lent suffices; no output is lent
abbrev pub enough : Work → Bool
enough w = work_suffices (record { output = 0; nodes = length w.nodes; index = length w.index })

-- ---- the contract. The work area afterwards is as the plain call leaves it, SPECIFICATION 2.4: after a 1, no buffer has changed. After any other answer the
-- work area is all zero; where a work buffer is longer than stated, the part beyond is unchanged.
pub record CompareIs (T : Texts) (w w' : Work) (r : Answer) : Type 0 where
  pub compared : told r ≡ comparison_in (enough w) T.document T.patch
  pub nodes-after : w'.nodes ≡ wiped (enough w) work_nodes no_node w.nodes
  pub index_after : w'.index ≡ wiped (enough w) work_entries 0 w.index

-- the same for C: the answer's fields in their order, and its number
unfoldable pub bit : Bool → ℕ
bit b = if b then 1 else 0

pub record ExportIs (T : Texts) (w w' : Work) (fields : List ℕ) (number : ℕ) : Type 0 where
  pub answer : Answer
  pub compares : CompareIs T w w' answer
  pub fields_are : fields ≡ answer.number ∷ answer.text ∷ answer.place ∷ bit answer.equal ∷ answer.names ∷ []
  pub number_is : number ≡ answer.number
