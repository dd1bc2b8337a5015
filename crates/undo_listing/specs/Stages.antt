-- What each stage of the call with an undo that lists origins promises. Each takes the table as the stage before left it, and answers as the definition
-- of its stage does.
use Rattle.std.specs.Prelude.{ℕ, ◌≤◌, ◌≡◌, Result, List, length}
use Rattle.spec.specs.Limits.{max_bytes, work_nodes, work_entries}
use Rattle.spec.specs.Bytes.{Bytes}
use Rattle.spec.specs.Value as Plain
use Rattle.spec.specs.Operation.{Operation}
use Rattle.spec.specs.Patch.{shape}
use Rattle.tape.specs.Lent.{Texts, Table}
use Rattle.reversal.specs.UndoValue.{undo_value}
use Rattle.reversal.specs.UndoAnswer.{undo_shaped}
use Rattle.origin.specs.Value as Value
use Rattle.origin.specs.Answer.{fitting, applied, after_patch, undo_answer}
use Rattle.walk.specs.Names.{Short}
use Rattle.changes.specs.Document.{Document, Bearing}
use Rattle.json_patch.specs.Stages.{PatchHeld}
use Rattle.undo_log.specs.Log.{Noted}
use Rattle.undo_log.specs.declared.log.Log.{Log}
use Rattle.json_patch.specs.declared.answer.Answer.{Answer}
use Rattle.undo.specs.Call.{as_undo_answer}
use Rattle.undo.specs.declared.answer.Written.{Written}
use Rattle.undo_listing.specs.Call.{Outputs, UndoListMemory, outputs_of, lending_of, UndoListedIs}

-- the document written, its origins listed, and its undo written
abbrev pub WriteAllIs : Table → Outputs → Outputs → ℕ → Bytes → Log → Result Written Answer → Type 0
WriteAllIs w o o' used work log r =
    (v : Value.Value) → Bearing w used v → (os : List Operation) → Noted log work os
    → UndoListedIs (after_patch (length o.texts.undo) (fitting (length o.texts.document) (length o.list) v) (undo_value os)) o o' (as_undo_answer r)

-- the shape of the patch, then its operations, then all written
abbrev pub RunPatchIs : Table → Outputs → Outputs → Bytes → ℕ → Result Written Answer → Type 0
RunPatchIs w o o' work used r =
    (v p : Plain.Value) → Document w used v → PatchHeld w p → Short w.texts → length work ≡ max_bytes
    → UndoListedIs
    (after_patch (length o.texts.undo) (applied (length o.texts.document) (length o.list) v (shape p)) (undo_value (undo_shaped v (shape p)))) o o'
    (as_undo_answer r)

-- all of it
abbrev pub CheckedIs : Texts → UndoListMemory → Outputs → Result Written Answer → Type 0
CheckedIs T m o' r =
    work_nodes ≤ length m.call.patch.nodes → work_entries ≤ length m.call.patch.index → length m.call.work ≡ max_bytes
    → UndoListedIs (undo_answer T.document T.patch (lending_of m)) (outputs_of m) o' (as_undo_answer r)
