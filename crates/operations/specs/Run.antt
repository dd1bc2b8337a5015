-- What a run of the operations makes of the document. As with one operation, the patch's rows are as they were, whatever the table holds.
use Rattle.std.specs.Prelude.{ℕ, ◌+◌, ◌≤◌, ◌<◌, ◌≡◌, Bool, List, Result, Ok, Err}
use Rattle.spec.specs.Fault.{number_of}
use Rattle.spec.specs.Forest.{Forest, size}
use Rattle.spec.specs.Value as Value
use Rattle.spec.specs.Operation as Operation
use Rattle.spec.specs.Operation.{limited}
use Rattle.spec.specs.Patch.{stop, Run, finished, stopped, operations, shape, run}
use Rattle.spec.specs.Proper.{Proper, ProperItems}
use Rattle.tape.specs.Layout.{patch_row, scratch_row}
use Rattle.tape.specs.Fields.{Row}
use Rattle.tape.specs.declared.fields.Cell.{Cell}
use Rattle.tape.specs.Lent.{Texts, Table}
use Rattle.table.specs.Meaning.{members, meant}
use Rattle.table.specs.Sound.{NodeHeld, RowsHeld}
use Rattle.origin.specs.Value as Origin
use Rattle.walk.specs.Bearing.{borne_members}
use Rattle.walk.specs.Names.{Short}
use Rattle.changes.specs.Site.{table}
use Rattle.changes.specs.Document.{Document, Bearing}
use Rattle.operations.specs.Bearing.{valued, run_with}
use Rattle.operations.specs.Perform.{SamePatch}
use Rattle.operations.specs.Answers.{pointed}
use Rattle.operations.specs.declared.answers.Stop.{Stop}

-- the document is then the result, or the refusal's number with the operation, the place and the pointer. What the document is, is told with its
-- origins or without them.
pub data RanBy {A : Type 0} (Is : ℕ → A → Type 0) (o : Run A) : Result ℕ Stop → Type 0 where
  ran : {used : ℕ} {v : A} → o ≡ finished v → Is used v → RanBy Is o (Ok used)
  halted : {s : Stop} → o ≡ stopped (stop (number_of s.refusal) s.op s.place (pointed s.pointer)) → RanBy Is o (Err s)

abbrev pub RanTo : Texts → List Row → Run Value.Value → Result ℕ Stop → Type 0
RanTo T nodes' o r = RanBy (Document (table T nodes')) o r

abbrev pub RanBearing : Texts → List Row → Run Origin.Value → Result ℕ Stop → Type 0
RanBearing T nodes' o r = RanBy (Bearing (table T nodes')) o r

-- what holds of the run of the operations that are elements in the rows from one to another, all proper values
abbrev pub ForRun : Table → ℕ → ℕ → ℕ → (Run Value.Value → Type 0) → Type 0
ForRun w used start end Q =
    (v : Value.Value) → Document w used v → Short w.texts → (f : Forest Cell) → RowsHeld w start end f → patch_row ≤ start → end ≤ scratch_row
    → (object : Bool) → ProperItems object (members w.texts f) → (os : List Operation.Operation) → operations 1 (members w.texts f) ≡ finished os
    → Q (run limited 1 os v)

-- and with origins
abbrev pub ForRunBearing : Table → ℕ → ℕ → ℕ → (Run Origin.Value → Type 0) → Type 0
ForRunBearing w used start end Q =
    (v : Origin.Value) → Bearing w used v → Short w.texts → (f : Forest Cell) → RowsHeld w start end f → patch_row ≤ start → end ≤ scratch_row
    → (object : Bool) → ProperItems object (members w.texts f) → (os : List Operation.Operation) → operations 1 (members w.texts f) ≡ finished os
    → Q (run_with 1 (valued (borne_members w.texts f) os) v)

pub record ElementsRunIs (w : Table) (nodes' : List Row) (used start end : ℕ) (r : Result ℕ Stop) : Type 0 where
  pub patch : SamePatch w.nodes nodes'
  pub held : ForRun w used start end (λ o. RanTo w.texts nodes' o r)
  pub bearing : ForRunBearing w used start end (λ o. RanBearing w.texts nodes' o r)

-- the operations of the patch, which is a proper value
pub record RunIs (w : Table) (nodes' : List Row) (used : ℕ) (r : Result ℕ Stop) : Type 0 where
  pub patch : SamePatch w.nodes nodes'
  pub held : (v : Value.Value) → Document w used v → Short w.texts → (c : Cell) (kids : Forest Cell) → NodeHeld w patch_row c kids
      → patch_row + size kids < scratch_row → Proper (meant w.texts c kids) → (os : List Operation.Operation) → shape (meant w.texts c kids) ≡ finished os
      → RanTo w.texts nodes' (run limited 1 os v) r
  pub bearing : (v : Origin.Value) → Bearing w used v → Short w.texts → (c : Cell) (kids : Forest Cell) → NodeHeld w patch_row c kids
      → patch_row + size kids < scratch_row → Proper (meant w.texts c kids) → (os : List Operation.Operation) → shape (meant w.texts c kids) ≡ finished os
      → RanBearing w.texts nodes' (run_with 1 (valued (borne_members w.texts kids) os) v) r
