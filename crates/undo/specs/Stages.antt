-- What each stage of the call promises. Each takes the table as the stage before left it, and answers as the definition of its stage does.
use Rattle.std.specs.Prelude.{ℕ, ◌≤◌, ◌≡◌, Result, List, length}
use Rattle.spec.specs.Limits.{max_bytes, work_nodes, work_entries}
use Rattle.spec.specs.Bytes.{Bytes}
use Rattle.spec.specs.Value as Value
use Rattle.spec.specs.Write.{write}
use Rattle.spec.specs.Operation.{Operation}
use Rattle.spec.specs.Patch.{shape}
use Rattle.spec.specs.Answer.{fitting, patched}
use Rattle.tape.specs.Lent.{Texts, Table}
use Rattle.walk.specs.Names.{Short}
use Rattle.changes.specs.Document.{Document}
use Rattle.json_patch.specs.Stages.{PatchHeld}
use Rattle.json_patch.specs.declared.answer.Answer.{Answer}
use Rattle.reversal.specs.UndoValue.{undo_value}
use Rattle.reversal.specs.UndoAnswer.{undo_shaped, after_patch, undo_answer}
use Rattle.undo_log.specs.Log.{Noted}
use Rattle.undo.specs.Call.{UndoMemory, undo_lent_of, Outputs, outputs_of, UndoAnswered, as_undo_answer}
use Rattle.undo_log.specs.declared.log.Log.{Log}
use Rattle.undo.specs.declared.answer.UndoAnswer.{UndoAnswer}
use Rattle.undo.specs.declared.answer.Written.{Written}

abbrev pub WithoutIs : Answer → UndoAnswer → Type 0
WithoutIs a r = (r.answer ≡ a) × (r.undo ≡ 0)

-- the document and its undo written. T-09: "Refusals: those of the patch first; then [..] 9, 5, 6, 2 [..]; then 16"
abbrev pub WriteBothIs : Table → Outputs → Outputs → Bytes → Log → Result Written Answer → Type 0
WriteBothIs w out out' work log r =
    (used : ℕ) (v : Value.Value) → Document w used v → (os : List Operation) → Noted log work os
    → UndoAnswered (after_patch (length out.undo) (fitting (length out.document) (write v)) (undo_value os)) out out' (as_undo_answer r)

-- the shape of the patch, then its operations, then both written
abbrev pub RunPatchIs : Table → Outputs → Outputs → Bytes → ℕ → Result Written Answer → Type 0
RunPatchIs w out out' work used r =
    (v p : Value.Value) → Document w used v → PatchHeld w p → Short w.texts → length work ≡ max_bytes
    → UndoAnswered (after_patch (length out.undo) (patched (length out.document) v p) (undo_value (undo_shaped v (shape p)))) out out' (as_undo_answer r)

-- all of it
abbrev pub CheckedIs : Texts → UndoMemory → Outputs → Result Written Answer → Type 0
CheckedIs T m out' r =
    work_nodes ≤ length m.patch.nodes → work_entries ≤ length m.patch.index → length m.work ≡ max_bytes
    → UndoAnswered (undo_answer T.document T.patch (undo_lent_of m)) (outputs_of m) out' (as_undo_answer r)
