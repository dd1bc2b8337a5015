-- What a call that lists origins promises, on every input: the whole answer, and all lent memory afterwards, as equations with the definition
-- `answer` of crate origin. What becomes of the work area is as in the plain call.
use Rattle.std.specs.Prelude.{ℕ, ◌≡◌, List, [], ◌∷◌, ◌++◌, length, drop}
use Rattle.spec.specs.Limits.{work_nodes, work_entries}
use Rattle.spec.specs.Bytes.{Bytes}
use Rattle.spec.specs.Answer as Spec
use Rattle.spec.specs.Answer.{Lent, work_suffices}
use Rattle.tape.specs.Fields.{Row, no_node}
use Rattle.tape.specs.Lent.{Texts}
use Rattle.origin.specs.Answer.{Listed, Lending, answer}
use Rattle.json_patch.specs.Call.{Memory, lent_of, Answered, wiped}
use Rattle.json_patch.specs.declared.answer.Answer.{Answer}

-- ---- what a call is lent beside its texts: the output and the list, and the work area
pub record Outputs : Type 0 where
  pub output : Bytes
  pub list : List ℕ

pub record ListMemory : Type 0 where
  pub call : Memory
  pub list : List ℕ

-- as it was lent, and as it is given back
abbrev pub outputs_before : Bytes → List ℕ → Outputs
outputs_before output list = record { output = output; list = list }

abbrev pub outputs_after : Bytes → List ℕ → Outputs
outputs_after output list = record { output = output; list = list }

abbrev pub list_before : Bytes → List ℕ → List Row → List ℕ → ListMemory
list_before output list nodes index =
    record { call = record { output = output; nodes = nodes; index = index }; list = list }

abbrev pub list_after : Bytes → List ℕ → List Row → List ℕ → ListMemory
list_after output list nodes index =
    record { call = record { output = output; nodes = nodes; index = index }; list = list }

abbrev pub outputs_of : ListMemory → Outputs
outputs_of m = record { output = m.call.output; list = m.list }

-- its lengths
abbrev pub lending_of : ListMemory → Lending Lent
lending_of m = record { call = lent_of m.call; list = length m.list }

-- ---- the answer, the output and the list. T-11: "in a lent list; its rest stays, and all of it on a refusal"
pub record ListedIs (a : Listed Spec.Answer) (o o' : Outputs) (r : Answer) : Type 0 where
  pub answered : Answered a.answer o.output o'.output r
  pub list : o'.list ≡ a.origins ++ drop (length a.origins) o.list

-- ---- a call whose answer is this one, with the work area afterwards
pub record CalledIs (a : Listed Spec.Answer) (m m' : ListMemory) (r : Answer) : Type 0 where
  pub listed : ListedIs a (outputs_of m) (outputs_of m') r
  pub nodes-after : m'.call.nodes ≡ wiped (work_suffices (lent_of m.call)) work_nodes no_node m.call.nodes
  pub index_after : m'.call.index ≡ wiped (work_suffices (lent_of m.call)) work_entries 0 m.call.index

-- the contract
abbrev pub ApplyListingIs : Texts → ListMemory → ListMemory → Answer → Type 0
ApplyListingIs T m m' r = CalledIs (answer T.document T.patch (lending_of m)) m m' r

-- the same for C: the answer's fields in their order, and its number
pub record ExportIs (T : Texts) (m m' : ListMemory) (fields : List ℕ) (number : ℕ) : Type 0 where
  pub answer : Answer
  pub applies : ApplyListingIs T m m' answer
  pub fields_are : fields ≡ answer.number ∷ answer.text ∷ answer.op ∷ answer.place ∷ answer.pointer ∷ answer.length ∷ []
  pub number_is : number ≡ answer.number
