-- `value_length` meets its contract: ten bytes are added to the value's. Assumes nothing.
use native.Mathlib.Omega.{arith}
use Rattle.undo_log.proofs.OperationLaws.{held_measured, value-length}
use Rattle.undo_log.proofs.lengths.value_length.Goals as goal

pub returns : goal.returns
returns c v h = omega (arith, c.joined.ensures, held_measured h c.measure.ensures, value-length v)
