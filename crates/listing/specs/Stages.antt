-- What each stage of a call that lists origins promises. Each takes the table as the stage before left it, and answers as the definition of its stage
-- does.
use Rattle.std.specs.Prelude.{ℕ, ◌≤◌, ◌≡◌, List, Result, length}
use Rattle.spec.specs.Limits.{work_nodes, work_entries}
use Rattle.spec.specs.Value as Plain
use Rattle.spec.specs.Operation.{Operation}
use Rattle.spec.specs.Patch.{finished, shape}
use Rattle.tape.specs.Lent.{Texts, Table}
use Rattle.origin.specs.Value as Value
use Rattle.origin.specs.Value.{painted}
use Rattle.origin.specs.Operation.{limited}
use Rattle.origin.specs.Patch.{run}
use Rattle.origin.specs.Answer.{fitting, answer_of, applied, answer}
use Rattle.walk.specs.Names.{Short}
use Rattle.changes.specs.Document.{Document, Bearing}
use Rattle.json_patch.specs.Stages.{as_answer, PatchHeld}
use Rattle.json_patch.specs.declared.answer.Answer.{Answer}
use Rattle.listing.specs.Call.{Outputs, ListMemory, outputs_of, lending_of, ListedIs}

-- the document written, and its origins listed
abbrev pub WriteListedIs : Table → Outputs → Outputs → ℕ → Result ℕ Answer → Type 0
WriteListedIs w o o' used r =
    (v : Value.Value) → Bearing w used v → ListedIs (fitting (length o.output) (length o.list) v) o o' (as_answer r)

-- the operations that the shape gives run, then the document written and listed
abbrev pub RunListedIs : Table → Outputs → Outputs → ℕ → Result ℕ Answer → Type 0
RunListedIs w o o' used r =
    (v p : Plain.Value) → Document w used v → PatchHeld w p → Short w.texts → (os : List Operation) → shape p ≡ finished os
    → ListedIs (answer_of (length o.output) (length o.list) (run limited 1 os (painted 0 v))) o o' (as_answer r)

-- the shape of the patch first
abbrev pub RunPatchIs : Table → Outputs → Outputs → ℕ → Result ℕ Answer → Type 0
RunPatchIs w o o' used r =
    (v p : Plain.Value) → Document w used v → PatchHeld w p → Short w.texts
    → ListedIs (applied (length o.output) (length o.list) v (shape p)) o o' (as_answer r)

-- all of it
abbrev pub CheckedIs : Texts → ListMemory → Outputs → Result ℕ Answer → Type 0
CheckedIs T m o' r =
    work_nodes ≤ length m.call.nodes → work_entries ≤ length m.call.index
    → ListedIs (answer T.document T.patch (lending_of m)) (outputs_of m) o' (as_answer r)
