-- What each stage of the call promises.
use Rattle.std.specs.Prelude.{ℕ, ◌≤◌, ◌≡◌, Result, Ok, Err, length}
use Rattle.spec.specs.Limits.{max_depth, work_nodes, work_entries}
use Rattle.spec.specs.Fault.{number_of}
use Rattle.spec.specs.Value as Value
use Rattle.spec.specs.Value.{depth}
use Rattle.comparison.specs.Comparison as Spec
use Rattle.comparison.specs.Call as Call
use Rattle.comparison.specs.Call.{success, comparison}
use Rattle.tape.specs.Lent.{Texts}
use Rattle.reader.specs.Work.{Work}
use Rattle.changes.specs.Site.{table}
use Rattle.changes.specs.Document.{Document}
use Rattle.json_patch.specs.Stages.{PatchHeld}
use Rattle.json_patch.specs.declared.texts.Unread.{Unread}
use Rattle.counting.specs.declared.values.Comparison.{Comparison}
use Rattle.compare.specs.Call.{told, as_compared, RefusalIs}
use Rattle.compare.specs.declared.answer.Answer.{Answer}

-- ---- the refusal of a text as the call's
abbrev pub UnreadIs : Unread → Answer → Type 0
UnreadIs u r = RefusalIs (number_of u.fault.refusal) u.text u.fault.place r

-- ---- the answer of the stages as that of the definition
unfoldable pub told_of : Result Comparison Answer → Call.Answer
told_of (Ok c) = success (as_compared c)
told_of (Err r) = told r

-- ---- the two values, where both are read
abbrev pub ComparedIs : Texts → Work → Comparison → Type 0
ComparedIs T w c =
    (used : ℕ) (v p : Value.Value) → Document (table T w.nodes) used v → PatchHeld (table T w.nodes) p → depth p ≤ max_depth
    → work_entries ≤ length w.index → as_compared c ≡ Spec.compared v p

-- all of it
abbrev pub CheckedIs : Texts → Work → Result Comparison Answer → Type 0
CheckedIs T w r = work_nodes ≤ length w.nodes → work_entries ≤ length w.index → told_of r ≡ comparison T.document T.patch
