-- What each stage of the call promises.
use Rattle.std.specs.Prelude.{ℕ, ◌≤◌, ◌≡◌, List, Result, Ok, Err, length}
use Rattle.spec.specs.Limits.{work_nodes, work_entries}
use Rattle.spec.specs.Fault.{number_of}
use Rattle.spec.specs.declared.refusal.Fault.{Fault}
use Rattle.spec.specs.Forest.{Forest}
use Rattle.spec.specs.Operation as Operation
use Rattle.spec.specs.Patch.{finished, operations, shape}
use Rattle.tape.specs.Layout.{patch_row}
use Rattle.tape.specs.declared.fields.Cell.{Cell}
use Rattle.tape.specs.Lent.{Texts, Table}
use Rattle.table.specs.Meaning.{members}
use Rattle.table.specs.Sound.{RowsHeld}
use Rattle.shape.specs.Members.{ForMeant}
use Rattle.shape.specs.declared.patch.Misshapen.{Misshapen}
use Rattle.reader.specs.Work.{Work}
use Rattle.inspection.specs.Inspection.{Inspection, accepted, counts_of, of_shape, inspection}
use Rattle.inspect.specs.Counts.{counts_in}
use Rattle.inspect.specs.Call.{told, RefusalIs}
use Rattle.inspect.specs.declared.counts.Counts.{Counts}
use Rattle.inspect.specs.declared.answer.Answer.{Answer}

-- ---- a refusal of one stage as the call's
abbrev pub UnreadIs : Fault → Answer → Type 0
UnreadIs fault r = RefusalIs (number_of fault.refusal) 2 0 fault.place r

abbrev pub MisshapenIs : Misshapen → Answer → Type 0
MisshapenIs wrong r = RefusalIs (number_of wrong.refusal) 0 wrong.op 0 r

-- ---- the answer of a stage as an inspection
unfoldable pub told_of : Result Counts Answer → Inspection
told_of (Ok counts) = accepted (counts_in counts)
told_of (Err r) = told r

-- ---- the operations in the rows from one up to another, where all are of the right shape; of other rows the counts are free
abbrev pub CountedIs : Table → ℕ → ℕ → Counts → Type 0
CountedIs w start end r =
    (f : Forest Cell) → RowsHeld w start end f → (os : List Operation.Operation) → operations 1 (members w.texts f) ≡ finished os
    → counts_in r ≡ counts_of os

-- the patch, where it is read
abbrev pub ShapedIs : Table → Result Counts Answer → Type 0
ShapedIs w r = ForMeant w patch_row λ v. told_of r ≡ of_shape (shape v)

-- all of it
abbrev pub CheckedIs : Texts → Work → Result Counts Answer → Type 0
CheckedIs T w r = work_nodes ≤ length w.nodes → work_entries ≤ length w.index → told_of r ≡ inspection T.patch
