-- What each stage of the call with a region that lists origins promises. Each takes the table as the stage before left it, and answers as the
-- definition of its stage does.
use Rattle.std.specs.Prelude.{ℕ, ◌≤◌, Result, length}
use Rattle.spec.specs.Limits.{work_nodes, work_entries}
use Rattle.spec.specs.Bytes.{Bytes}
use Rattle.spec.specs.Value as Plain
use Rattle.tape.specs.Lent.{Texts, Table}
use Rattle.walk.specs.Names.{Short}
use Rattle.changes.specs.Document.{Document}
use Rattle.json_patch.specs.Stages.{as_answer, PatchHeld}
use Rattle.json_patch.specs.declared.answer.Answer.{Answer}
use Rattle.region.specs.Answer.{region_tokens}
use Rattle.origin_within.specs.Answer.{patched_within, answer_within}
use Rattle.listing.specs.Call.{Outputs, ListMemory, outputs_of, lending_of, ListedIs}

-- the region, the shape of the patch in it, its operations, then the document written and listed
abbrev pub RunWithinIs : Table → Bytes → Outputs → Outputs → ℕ → Result ℕ Answer → Type 0
RunWithinIs w region o o' used r =
    (v p : Plain.Value) → Document w used v → PatchHeld w p → Short w.texts
    → ListedIs (patched_within (length o.output) (length o.list) v p (region_tokens region)) o o' (as_answer r)

-- all of it
abbrev pub CheckedWithinIs : Texts → Bytes → ListMemory → Outputs → Result ℕ Answer → Type 0
CheckedWithinIs T region m o' r =
    work_nodes ≤ length m.call.nodes → work_entries ≤ length m.call.index
    → ListedIs (answer_within T.document T.patch region (lending_of m)) (outputs_of m) o' (as_answer r)
