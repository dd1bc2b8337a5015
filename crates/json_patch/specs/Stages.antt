-- What each stage of the call promises. Each takes the table as the stage before left it, and answers as the definition of its stage does.
use Rattle.std.specs.Prelude.{ℕ, ◌+◌, ◌≤◌, ◌<◌, ◌≡◌, Result, Ok, Err, length}
use Rattle.spec.specs.Limits.{work_nodes, work_entries}
use Rattle.spec.specs.Fault.{number_of}
use Rattle.spec.specs.declared.refusal.Fault.{Fault}
use Rattle.spec.specs.Bytes.{Bytes}
use Rattle.spec.specs.Forest.{Forest, size}
use Rattle.spec.specs.Value as Value
use Rattle.spec.specs.Write.{write}
use Rattle.spec.specs.Answer.{fitting, patched, answer}
use Rattle.spec.specs.Proper.{Proper}
use Rattle.tape.specs.Layout.{patch_row, scratch_row}
use Rattle.tape.specs.declared.fields.Cell.{Cell}
use Rattle.tape.specs.Lent.{Texts, Table}
use Rattle.table.specs.Meaning.{meant}
use Rattle.table.specs.Sound.{NodeHeld}
use Rattle.walk.specs.Names.{Short}
use Rattle.shape.specs.declared.patch.Misshapen.{Misshapen}
use Rattle.changes.specs.Document.{Document}
use Rattle.operations.specs.Answers.{pointed}
use Rattle.operations.specs.declared.answers.Stop.{Stop}
use Rattle.json_patch.specs.Call.{Memory, lent_of, Answered, RefusalIs, FailureIs}
use Rattle.json_patch.specs.declared.answer.Answer.{Answer}

-- ---- a refusal of one stage as the call's
abbrev pub UnreadIs : ℕ → Fault → Answer → Type 0
UnreadIs text fault r = RefusalIs (number_of fault.refusal) text 0 fault.place r

abbrev pub MisshapenIs : Misshapen → Answer → Type 0
MisshapenIs wrong r = RefusalIs (number_of wrong.refusal) 0 wrong.op 0 r

abbrev pub StoppedIs : Stop → Answer → Type 0
StoppedIs stop r = FailureIs (number_of stop.refusal) stop.op stop.place (pointed stop.pointer) r

-- ---- the answer of a stage as the call's: of a success it has the length of the written text
unfoldable pub as_answer : Result ℕ Answer → Answer
as_answer (Ok length) = record { number = 0; text = 0; op = 0; place = 0; pointer = 0; length = length }
as_answer (Err refusal) = refusal

-- ---- the patch is a proper value: its tree begins in the first row of the patch's part, and ends within that part
pub record PatchHeld (w : Table) (p : Value.Value) : Type 0 where
  pub c : Cell
  pub kids : Forest Cell
  pub held : NodeHeld w patch_row c kids
  pub means : meant w.texts c kids ≡ p
  pub inside : patch_row + size kids < scratch_row
  pub proper : Proper p

-- the document written
abbrev pub WriteOutIs : Table → Bytes → Bytes → Result ℕ Answer → Type 0
WriteOutIs w out out' r = (used : ℕ) (v : Value.Value) → Document w used v → Answered (fitting (length out) (write v)) out out' (as_answer r)

-- the shape of the patch, then its operations, then the document written
abbrev pub RunPatchIs : Table → Bytes → Bytes → ℕ → Result ℕ Answer → Type 0
RunPatchIs w out out' used r =
    (v p : Value.Value) → Document w used v → PatchHeld w p → Short w.texts → Answered (patched (length out) v p) out out' (as_answer r)

-- all of it
abbrev pub CheckedIs : Texts → Memory → Bytes → Result ℕ Answer → Type 0
CheckedIs T m out' r =
    work_nodes ≤ length m.nodes → work_entries ≤ length m.index → Answered (answer T.document T.patch (lent_of m)) m.output out' (as_answer r)
