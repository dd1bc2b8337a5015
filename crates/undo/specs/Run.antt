-- The operations of a patch one after another, with their undo noted.
use Rattle.std.specs.Prelude.{ℕ, ◌+◌, ◌≤◌, ◌<◌, ◌≡◌, Bool, Result, Ok, List, ◌++◌}
use Rattle.spec.specs.Bytes.{Bytes}
use Rattle.spec.specs.Forest.{Forest, size}
use Rattle.spec.specs.Value as Value
use Rattle.spec.specs.Operation.{Operation, limited}
use Rattle.spec.specs.Patch.{Run, finished, operations, shape, run}
use Rattle.spec.specs.Proper.{Proper, ProperItems}
use Rattle.tape.specs.Layout.{patch_row, scratch_row}
use Rattle.tape.specs.Fields.{Row}
use Rattle.tape.specs.declared.fields.Cell.{Cell}
use Rattle.tape.specs.Lent.{Texts, Table}
use Rattle.table.specs.Meaning.{members, meant}
use Rattle.table.specs.Sound.{NodeHeld, RowsHeld}
use Rattle.walk.specs.Names.{Short}
use Rattle.changes.specs.Document.{Document}
use Rattle.operations.specs.declared.answers.Stop.{Stop}
use Rattle.operations.specs.Run.{RanTo, ElementsRunIs, RunIs}
use Rattle.reversal.specs.Undo.{undo_run}
use Rattle.undo_log.specs.Log.{Noted}
use Rattle.undo_log.specs.declared.log.Log.{Log}
use Rattle.undo.specs.Step.{rows_of}
use Rattle.undo.specs.declared.logged.Logged.{Logged}

-- what a run comes to, and the undo that is noted where it succeeds
pub record LoggedTo (T : Texts) (nodes' : List Row) (o : Run Value.Value) (undo : List Operation) (work' : Bytes) (r : Result Logged Stop) : Type 0 where
  pub ran : RanTo T nodes' o (rows_of r)
  pub noted : (v : Value.Value) → o ≡ finished v → (logged : Logged) → r ≡ Ok logged → Noted logged.log work' undo

-- The operations that are elements in the rows from one to another are run as without an undo, with their origins, and the patch's rows are as they were.
-- Where a document and operations are held, and what was noted before is a log, their undo is noted.
pub record ElementsLoggedIs (w : Table) (nodes' : List Row) (work work' : Bytes) (used start end : ℕ) (log : Log) (r : Result Logged Stop) : Type 0 where
  pub runs : ElementsRunIs w nodes' used start end (rows_of r)
  pub held : (v : Value.Value) → Document w used v → Short w.texts → (f : Forest Cell) → RowsHeld w start end f → patch_row ≤ start → end ≤ scratch_row
      → (object : Bool) → ProperItems object (members w.texts f) → (os : List Operation) → operations 1 (members w.texts f) ≡ finished os
      → (earlier : List Operation) → Noted log work earlier
      → LoggedTo w.texts nodes' (run limited 1 os v) (undo_run os v ++ earlier) work' r

-- The same for the patch. Otherwise a log that is answered, and the buffer, are free.
pub record LoggedIs (w : Table) (nodes' : List Row) (work work' : Bytes) (used : ℕ) (log : Log) (r : Result Logged Stop) : Type 0 where
  pub runs : RunIs w nodes' used (rows_of r)
  pub held : (v : Value.Value) → Document w used v → Short w.texts → (c : Cell) (kids : Forest Cell) → NodeHeld w patch_row c kids
      → patch_row + size kids < scratch_row → Proper (meant w.texts c kids) → (os : List Operation) → shape (meant w.texts c kids) ≡ finished os
      → (earlier : List Operation) → Noted log work earlier
      → LoggedTo w.texts nodes' (run limited 1 os v) (undo_run os v ++ earlier) work' r
