-- What the call promises, on every input: the whole answer, and all lent memory afterwards, as equations with the definition `undo_answer`.
use Rattle.std.specs.Prelude.{ℕ, ◌≡◌, Bool, ◌&&◌, Result, Ok, Err, List, [], ◌∷◌, ◌++◌, leb, length, drop}
use Rattle.spec.specs.Limits.{max_bytes, work_nodes, work_entries}
use Rattle.spec.specs.Bytes.{Bytes}
use Rattle.spec.specs.Answer.{work_suffices}
use Rattle.tape.specs.Fields.{no_node}
use Rattle.tape.specs.Lent.{Texts}
use Rattle.json_patch.specs.Call.{Memory, lent_of, Answered, wiped}
use Rattle.json_patch.specs.Stages.{as_answer}
use Rattle.json_patch.specs.declared.answer.Answer.{Answer}
use Rattle.reversal.specs.UndoAnswer as Spec
use Rattle.reversal.specs.UndoAnswer.{UndoLent, undo_answer}
use Rattle.undo.specs.declared.answer.UndoAnswer.{UndoAnswer}
use Rattle.undo.specs.declared.answer.Written.{Written}

-- ---- what a call is lent beside its two texts: what the plain call is lent, an output for the undo, and a buffer in which its text is made
pub record UndoMemory : Type 0 where
  pub patch : Memory
  pub undo : Bytes
  pub work : Bytes

-- as it was lent, and as it is given back
abbrev pub with_before : Memory → Bytes → Bytes → UndoMemory
with_before m undo work = record { patch = m; undo = undo; work = work }

abbrev pub with_after : Memory → Bytes → Bytes → UndoMemory
with_after m undo work = record { patch = m; undo = undo; work = work }

-- its lengths
abbrev pub undo_lent_of : UndoMemory → UndoLent
undo_lent_of m = record { patch = lent_of m.patch; undo = length m.undo; work = length m.work }

-- whether the work area suffices, with the buffer
unfoldable pub undo_suffices : UndoLent → Bool
undo_suffices lent = work_suffices lent.patch && leb max_bytes lent.work

-- ---- the answer, and the two outputs
pub record Outputs : Type 0 where
  pub document : Bytes
  pub undo : Bytes

abbrev pub outputs_of : UndoMemory → Outputs
outputs_of m = record { document = m.patch.output; undo = m.undo }

-- the call's answer is this one, and each output has its text in front afterwards, and is otherwise as it was before
pub record UndoAnswered (a : Spec.UndoAnswer) (before after : Outputs) (r : UndoAnswer) : Type 0 where
  pub answered : Answered a.answer before.document after.document r.answer
  pub undo_length : r.undo ≡ length a.undo
  pub undo_output : after.undo ≡ a.undo ++ drop (length a.undo) before.undo

-- the answer of the stages as the call's: of a success it has the lengths of the two texts, and a refusal has no undo
unfoldable pub as_undo_answer : Result Written Answer → UndoAnswer
as_undo_answer (Ok written) = record { answer = as_answer (Ok written.document); undo = written.undo }
as_undo_answer (Err refusal) = record { answer = refusal; undo = 0 }

-- ---- the contract; the work area and the buffer are all zero for their stated lengths, or untouched where one was too short
pub record UndoIs (T : Texts) (m m' : UndoMemory) (r : UndoAnswer) : Type 0 where
  pub answered : UndoAnswered (undo_answer T.document T.patch (undo_lent_of m)) (outputs_of m) (outputs_of m') r
  pub nodes-after : m'.patch.nodes ≡ wiped (undo_suffices (undo_lent_of m)) work_nodes no_node m.patch.nodes
  pub index_after : m'.patch.index ≡ wiped (undo_suffices (undo_lent_of m)) work_entries 0 m.patch.index
  pub work_after_lem : m'.work ≡ wiped (undo_suffices (undo_lent_of m)) max_bytes 0 m.work

-- the same for C: the answer's fields in their order, and its number
pub record ExportIs (T : Texts) (m m' : UndoMemory) (fields : List ℕ) (number : ℕ) : Type 0 where
  pub answer : UndoAnswer
  pub applies : UndoIs T m m' answer
  pub fields_are : fields ≡ answer.answer.number ∷ answer.answer.text ∷ answer.answer.op ∷ answer.answer.place
      ∷ answer.answer.pointer ∷ answer.answer.length ∷ answer.undo ∷ []
  pub number_is : number ≡ answer.answer.number
