-- What each stage of the call promises. Each takes the table as the stage before left it, and answers as the definition of its stage does.
use Rattle.std.specs.Prelude.{ℕ, ◌≤◌, ◌≡◌, Result, length}
use Rattle.spec.specs.Limits.{max_depth, work_nodes, work_entries}
use Rattle.spec.specs.Value as Plain
use Rattle.tape.specs.Lent.{Texts, Table}
use Rattle.origin.specs.Value as Value
use Rattle.origin.specs.Value.{painted, depth, nodes}
use Rattle.origin.specs.MergePatch.{merge_patch}
use Rattle.origin.specs.Answer.{fitting, merged_in, merge_answer}
use Rattle.json_patch.specs.Stages.{as_answer}
use Rattle.json_patch.specs.declared.answer.Answer.{Answer}
use Rattle.listing.specs.Call.{Outputs, ListMemory, outputs_of, lending_of, ListedIs}
use Rattle.merge.specs.Trees.{Both, BearingAt}

-- a value written, and its origins listed
abbrev pub WriteListedIs : Table → Outputs → Outputs → ℕ → ℕ → Result ℕ Answer → Type 0
WriteListedIs w o o' at count r =
    (v : Value.Value) → BearingAt w at v → depth v ≤ max_depth → count ≡ nodes v → ListedIs (fitting (length o.output) (length o.list) v) o o' (as_answer r)

-- the two merged, and the result written and listed
abbrev pub RunListedIs : Table → Outputs → Outputs → ℕ → Result ℕ Answer → Type 0
RunListedIs w o o' used r =
    (v p : Plain.Value) (both : Both w v p) → both.used ≡ used
    → ListedIs (merged_in (length o.output) (length o.list) (merge_patch (painted 0 v) p)) o o' (as_answer r)

-- all of it
abbrev pub CheckedListedIs : Texts → ListMemory → Outputs → Result ℕ Answer → Type 0
CheckedListedIs T m o' r =
    work_nodes ≤ length m.call.nodes → work_entries ≤ length m.call.index
    → ListedIs (merge_answer T.document T.patch (lending_of m)) (outputs_of m) o' (as_answer r)
