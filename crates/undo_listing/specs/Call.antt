-- What the call with an undo that lists origins promises, on every input: the whole answer, and all lent memory afterwards, as equations with the
-- definition `undo_answer` of crate origin. What becomes of the work area and the buffer is as in the call with an undo.
use Rattle.std.specs.Prelude.{ℕ, ◌≡◌, List, [], ◌∷◌, ◌++◌, length, drop}
use Rattle.spec.specs.Limits.{max_bytes, work_nodes, work_entries}
use Rattle.spec.specs.Bytes.{Bytes}
use Rattle.tape.specs.Fields.{Row, no_node}
use Rattle.tape.specs.Lent.{Texts}
use Rattle.reversal.specs.UndoAnswer as Spec
use Rattle.reversal.specs.UndoAnswer.{UndoLent}
use Rattle.origin.specs.Answer.{Listed, Lending, undo_answer}
use Rattle.json_patch.specs.Call.{wiped}
use Rattle.undo.specs.Call as Undo
use Rattle.undo.specs.Call.{UndoMemory, undo_lent_of, undo_suffices, UndoAnswered}
use Rattle.undo.specs.declared.answer.UndoAnswer.{UndoAnswer}

-- ---- what a call is lent beside its two texts: what the call with an undo is lent, and the list
pub record UndoListMemory : Type 0 where
  pub call : UndoMemory
  pub list : List ℕ

-- the two outputs, and the list
pub record Outputs : Type 0 where
  pub texts : Undo.Outputs
  pub list : List ℕ

-- as it was lent, and as it is given back
abbrev pub outputs_before : Bytes → Bytes → List ℕ → Outputs
outputs_before output undo list = record { texts = record { document = output; undo = undo }; list = list }

abbrev pub outputs_after : Bytes → Bytes → List ℕ → Outputs
outputs_after output undo list = record { texts = record { document = output; undo = undo }; list = list }

abbrev pub memory_before : Bytes → Bytes → List ℕ → List Row → List ℕ → Bytes → UndoListMemory
memory_before output undo list nodes index work =
    record {
      call =
          record {
            patch = record { output = output; nodes = nodes; index = index };
            undo = undo;
            work = work;
          };
      list = list;
    }

abbrev pub memory_after : Bytes → Bytes → List ℕ → List Row → List ℕ → Bytes → UndoListMemory
memory_after output undo list nodes index work =
    record {
      call =
          record {
            patch = record { output = output; nodes = nodes; index = index };
            undo = undo;
            work = work;
          };
      list = list;
    }

abbrev pub outputs_of : UndoListMemory → Outputs
outputs_of m = record { texts = Undo.outputs_of m.call; list = m.list }

-- its lengths
abbrev pub lending_of : UndoListMemory → Lending UndoLent
lending_of m = record { call = undo_lent_of m.call; list = length m.list }

-- ---- the answer, the two outputs and the list. T-11: "in a lent list; its rest stays, and all of it on a refusal"
pub record UndoListedIs (a : Listed Spec.UndoAnswer) (o o' : Outputs) (r : UndoAnswer) : Type 0 where
  pub answered : UndoAnswered a.answer o.texts o'.texts r
  pub list : o'.list ≡ a.origins ++ drop (length a.origins) o.list

-- ---- the contract; the work area and the buffer are all zero for their stated lengths, or untouched where one was too short
pub record UndoListingIs (T : Texts) (m m' : UndoListMemory) (r : UndoAnswer) : Type 0 where
  pub listed : UndoListedIs (undo_answer T.document T.patch (lending_of m)) (outputs_of m) (outputs_of m') r
  pub nodes-after : m'.call.patch.nodes ≡ wiped (undo_suffices (undo_lent_of m.call)) work_nodes no_node m.call.patch.nodes
  pub index_after : m'.call.patch.index ≡ wiped (undo_suffices (undo_lent_of m.call)) work_entries 0 m.call.patch.index
  pub work_after_lem : m'.call.work ≡ wiped (undo_suffices (undo_lent_of m.call)) max_bytes 0 m.call.work

-- the same for C: the answer's fields in their order, and its number
pub record ExportIs (T : Texts) (m m' : UndoListMemory) (fields : List ℕ) (number : ℕ) : Type 0 where
  pub answer : UndoAnswer
  pub applies : UndoListingIs T m m' answer
  pub fields_are : fields ≡ answer.answer.number ∷ answer.answer.text ∷ answer.answer.op ∷ answer.answer.place
      ∷ answer.answer.pointer ∷ answer.answer.length ∷ answer.undo ∷ []
  pub number_is : number ≡ answer.answer.number
