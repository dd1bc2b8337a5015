-- What each stage of the call with a region promises. Each takes the table as the stage before left it, and answers as the definition of its stage
-- does.
use Rattle.std.specs.Prelude.{ℕ, ◌≤◌, Result, length}
use Rattle.spec.specs.Limits.{work_nodes, work_entries}
use Rattle.spec.specs.Bytes.{Bytes}
use Rattle.spec.specs.Value as Value
use Rattle.tape.specs.Lent.{Texts, Table}
use Rattle.walk.specs.Names.{Short}
use Rattle.changes.specs.Document.{Document}
use Rattle.json_patch.specs.Call.{Memory, lent_of, Answered}
use Rattle.json_patch.specs.Stages.{as_answer, PatchHeld}
use Rattle.json_patch.specs.declared.answer.Answer.{Answer}
use Rattle.region.specs.Answer.{region_tokens, patched_within, answer_within}

-- the region, the shape of the patch in it, its operations, then the document written
abbrev pub RunWithinIs : Table → Bytes → Bytes → Bytes → ℕ → Result ℕ Answer → Type 0
RunWithinIs w region out out' used r =
    (v p : Value.Value) → Document w used v → PatchHeld w p → Short w.texts
    → Answered (patched_within (length out) v p (region_tokens region)) out out' (as_answer r)

-- all of it
abbrev pub CheckedWithinIs : Texts → Bytes → Memory → Bytes → Result ℕ Answer → Type 0
CheckedWithinIs T region m out' r =
    work_nodes ≤ length m.nodes → work_entries ≤ length m.index
    → Answered (answer_within T.document T.patch region (lent_of m)) m.output out' (as_answer r)
