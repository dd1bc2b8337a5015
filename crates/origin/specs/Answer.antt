-- The answers of the calls that list origins: SPECIFICATION 19.4. T-11: "Each call that applies a patch, merge and undo included, lists the origins
-- too, one for each value in the order of their first written bytes, in a lent list; its rest stays, and all of it on a refusal."
use Rattle.std.specs.Prelude.{ℕ, List, [], not, length, leb, ltb, eqb, if◌then◌else◌}
use Rattle.spec.specs.Outcome.{Outcome, ok, refused}
use Rattle.spec.specs.Refusal.{done, work_too_short, input_too_long, too_many_nodes, output_too_short}
use Rattle.spec.specs.Limits.{max_bytes, max_nodes}
use Rattle.spec.specs.Bytes.{Bytes}
use Rattle.spec.specs.Value as Plain
use Rattle.spec.specs.Read.{read}
use Rattle.spec.specs.Write.{write}
use Rattle.spec.specs.Operation.{Operation}
use Rattle.spec.specs.Patch.{Run, finished, stopped, shape, on_finish}
use Rattle.spec.specs.Answer.{Answer, Lent, success, refusal, failure, work_suffices}
use Rattle.reversal.specs.UndoValue.{undo_value}
use Rattle.reversal.specs.UndoAnswer as PlainUndo
use Rattle.reversal.specs.UndoAnswer.{UndoAnswer, UndoLent, undo_refusal, undo_operations}
use Rattle.origin.specs.Value as Value
use Rattle.origin.specs.Value.{forget, painted, origins, nodes}
use Rattle.origin.specs.Operation.{limited}
use Rattle.origin.specs.Patch.{run}
use Rattle.origin.specs.MergePatch.{merge_patch}

-- an answer of the plain call, and what is written to the list
pub record Listed (A : Type 0) : Type 0 where
  pub answer : A
  pub origins : List ℕ

abbrev pub listed : {A : Type 0} → A → List ℕ → Listed A
listed a os = record { answer = a; origins = os }

-- nothing, on a refusal
abbrev pub unlisted : {A : Type 0} → A → Listed A
unlisted a = listed a []

-- what the plain call is lent, and the list by its length in entries
pub record Lending (L : Type 0) : Type 0 where
  pub call : L
  pub list : ℕ

-- "16 also for a short list, where a short output for the document gives it"
unfoldable pub fitting : ℕ → ℕ → Value.Value → Listed Answer
fitting room list v =
    if leb (length (write (forget v))) room then
    (if leb (length (origins v)) list then listed (success (write (forget v))) (origins v) else unlisted (refusal output_too_short 0 0 0))
    else unlisted (refusal output_too_short 0 0 0)

-- ---- the call of SPECIFICATION 2
unfoldable pub answer_of : ℕ → ℕ → Run Value.Value → Listed Answer
answer_of room list (finished v) = fitting room list v
answer_of room list (stopped s) = unlisted (failure s)

-- the operations that the shape gives, one after another, the first of them operation 1: "0 from the document"
unfoldable pub applied : ℕ → ℕ → Plain.Value → Run (List Operation) → Listed Answer
applied room list document shaped = answer_of room list (on_finish shaped λ operations. run limited 1 operations (painted 0 document))

unfoldable pub on_patch : ℕ → ℕ → Plain.Value → Outcome Plain.Value → Listed Answer
on_patch room list document (ok patch) = applied room list document (shape patch)
on_patch room list document (refused number place) = unlisted (refusal number 2 0 place)

unfoldable pub on_document : ℕ → ℕ → Outcome Plain.Value → Bytes → Listed Answer
on_document room list (ok document) patch = on_patch room list document (read patch)
on_document room list (refused number place) patch = unlisted (refusal number 1 0 place)

unfoldable pub answer : Bytes → Bytes → Lending Lent → Listed Answer
answer document patch lent =
    if not (work_suffices lent.call) then unlisted (refusal work_too_short 0 0 0) else
    if ltb max_bytes (length document) then unlisted (refusal input_too_long 1 0 0) else
    if ltb max_bytes (length patch) then unlisted (refusal input_too_long 2 0 0) else on_document lent.call.output lent.list (read document) patch

-- ---- the merge patch
unfoldable pub merged_in : ℕ → ℕ → Value.Value → Listed Answer
merged_in room list merged = if leb (nodes merged) max_nodes then fitting room list merged else unlisted (refusal too_many_nodes 0 0 0)

unfoldable pub on_merge_patch : ℕ → ℕ → Plain.Value → Outcome Plain.Value → Listed Answer
on_merge_patch room list document (ok patch) = merged_in room list (merge_patch (painted 0 document) patch)
on_merge_patch room list document (refused number place) = unlisted (refusal number 2 0 place)

unfoldable pub on_merge_document : ℕ → ℕ → Outcome Plain.Value → Bytes → Listed Answer
on_merge_document room list (ok document) patch = on_merge_patch room list document (read patch)
on_merge_document room list (refused number place) patch = unlisted (refusal number 1 0 place)

unfoldable pub merge_answer : Bytes → Bytes → Lending Lent → Listed Answer
merge_answer document patch lent =
    if not (work_suffices lent.call) then unlisted (refusal work_too_short 0 0 0) else
    if ltb max_bytes (length document) then unlisted (refusal input_too_long 1 0 0) else
    if ltb max_bytes (length patch) then unlisted (refusal input_too_long 2 0 0) else
    on_merge_document lent.call.output lent.list (read document) patch

-- ---- the undo: the patched document's origins, where the undo is written too. A short list is one of the patch's refusals, which come first.
unfoldable pub beside : List ℕ → UndoAnswer → Listed UndoAnswer
beside os a = listed a (if eqb a.answer.number done then os else [])

unfoldable pub after_patch : ℕ → Listed Answer → Plain.Value → Listed UndoAnswer
after_patch room a u = beside a.origins (PlainUndo.after_patch room a.answer u)

unfoldable pub undo_answer : Bytes → Bytes → Lending UndoLent → Listed UndoAnswer
undo_answer document patch lent =
    if leb max_bytes lent.call.work then
    after_patch lent.call.undo (answer document patch (record { call = lent.call.patch; list = lent.list }))
    (undo_value (undo_operations document patch))
    else unlisted (undo_refusal (refusal work_too_short 0 0 0))
