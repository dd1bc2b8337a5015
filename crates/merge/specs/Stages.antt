-- What each stage of the call promises. Each takes the table as the stage before left it, and answers as the definition of its stage does.
use Rattle.std.specs.Prelude.{ℕ, ◌≤◌, Result, length}
use Rattle.spec.specs.Limits.{max_depth, work_nodes, work_entries}
use Rattle.spec.specs.Bytes.{Bytes}
use Rattle.spec.specs.Value as Value
use Rattle.spec.specs.Write.{write}
use Rattle.spec.specs.Answer.{fitting}
use Rattle.merging.specs.MergePatch.{merge_patch, merged_in, merge_answer}
use Rattle.tape.specs.Lent.{Texts, Table}
use Rattle.json_patch.specs.Call.{Memory, lent_of, Answered}
use Rattle.json_patch.specs.Stages.{as_answer}
use Rattle.json_patch.specs.declared.answer.Answer.{Answer}
use Rattle.merge.specs.Trees.{Both, ValueAt}

-- a value written
abbrev pub WriteAtIs : Table → ℕ → Bytes → Bytes → Result ℕ Answer → Type 0
WriteAtIs w at out out' r = (v : Value.Value) → ValueAt w at v → Value.depth v ≤ max_depth → Answered (fitting (length out) (write v)) out out' (as_answer r)

-- the two merged, and the result written
abbrev pub RunMergeIs : Table → Bytes → Bytes → Result ℕ Answer → Type 0
RunMergeIs w out out' r = (v p : Value.Value) → Both w v p → Answered (merged_in (length out) (merge_patch v p)) out out' (as_answer r)

-- all of it
abbrev pub CheckedMergeIs : Texts → Memory → Bytes → Result ℕ Answer → Type 0
CheckedMergeIs T m out' r =
    work_nodes ≤ length m.nodes → work_entries ≤ length m.index → Answered (merge_answer T.document T.patch (lent_of m)) m.output out' (as_answer r)
