-- The answer of the call that writes the undo beside the document: SPECIFICATION 16.4, T-09.
use Rattle.std.specs.Prelude.{ℕ, List, [], length, leb, eqb, if◌then◌else◌}
use Rattle.spec.specs.Outcome.{Outcome, ok, refused}
use Rattle.spec.specs.Refusal.{done, work_too_short, input_too_long, too_deep, too_many_nodes, too_many_operations, output_too_short}
use Rattle.spec.specs.Limits.{max_bytes, max_depth, max_nodes, max_operations}
use Rattle.spec.specs.Bytes.{Bytes}
use Rattle.spec.specs.Forest.{count}
use Rattle.spec.specs.Value as Value
use Rattle.spec.specs.Value.{depth, nodes}
use Rattle.spec.specs.Read.{read}
use Rattle.spec.specs.Write.{write}
use Rattle.spec.specs.Operation.{Operation}
use Rattle.spec.specs.Patch.{Run, finished, stopped, shape}
use Rattle.spec.specs.Answer.{Answer, Lent, answer, success, refusal}
use Rattle.reversal.specs.Undo.{undo_run}
use Rattle.reversal.specs.UndoValue.{undo_value}

-- the answer of a patch, and the undo's text: "whose answer gains the undo's length, 0 on refusal"
pub record UndoAnswer : Type 0 where
  pub answer : Answer
  pub undo : Bytes

-- the lengths of the lent buffers: those that the plain call is lent, and bytes of the undo's output and of the buffer in which its text
-- is made
pub record UndoLent : Type 0 where
  pub patch : Lent
  pub undo : ℕ
  pub work : ℕ

abbrev pub undo_success : Bytes → Bytes → UndoAnswer
undo_success text undo = record { answer = success text; undo = undo }

abbrev pub undo_refusal : Answer → UndoAnswer
undo_refusal a = record { answer = a; undo = [] }

-- the undo of the operations that a patch has; none for a patch that is not well formed
unfoldable pub undo_shaped : Value.Value → Run (List Operation) → List Operation
undo_shaped document (finished os) = undo_run os document
undo_shaped document (stopped s) = []

unfoldable pub undo_read : Outcome Value.Value → Outcome Value.Value → List Operation
undo_read (ok document) (ok patch) = undo_shaped document (shape patch)
undo_read (ok document) (refused number place) = []
undo_read (refused number place) patch = []

-- the undo of a patch text on a document text
unfoldable pub undo_operations : Bytes → Bytes → List Operation
undo_operations document patch = undo_read (read document) (read patch)

-- 16 for a short undo output
unfoldable pub undo_fitting : ℕ → Bytes → Bytes → UndoAnswer
undo_fitting room text undo = if leb (length undo) room then undo_success text undo else undo_refusal (refusal output_too_short 0 0 0)

-- "then, for an undo that could not be read back, 9, 5, 6, 2, each with text 2, op and place 0; then 16"
unfoldable pub undo_written : ℕ → Bytes → Value.Value → UndoAnswer
undo_written room text u =
    if leb (count u.kids) max_operations then
    (if leb (depth u) max_depth then
    (if leb (nodes u) max_nodes then
    (if leb (length (write u)) max_bytes then undo_fitting room text (write u)
    else undo_refusal (refusal input_too_long 2 0 0))
    else undo_refusal (refusal too_many_nodes 2 0 0))
    else undo_refusal (refusal too_deep 2 0 0))
    else undo_refusal (refusal too_many_operations 2 0 0)

-- "Refusals: those of the patch first"
unfoldable pub after_patch : ℕ → Answer → Value.Value → UndoAnswer
after_patch room a u = if eqb a.number done then undo_written room a.written u else undo_refusal a

unfoldable pub undo_answer : Bytes → Bytes → UndoLent → UndoAnswer
undo_answer document patch lent =
    if leb max_bytes lent.work then after_patch lent.undo (answer document patch lent.patch) (undo_value (undo_operations document patch))
    else undo_refusal (refusal work_too_short 0 0 0)
