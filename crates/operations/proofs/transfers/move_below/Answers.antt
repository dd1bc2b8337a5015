-- `move_below` meets its contract, by what the walk leads to.
use Rattle.spec.proofs.FaultLaws.{handed}
use Rattle.operations.proofs.TransferLaws.{value-moved, value-lost, shift_done, shift_kept, below_kept}
use Rattle.operations.proofs.transfers.move_below.Goals as goal

pub returns-then-shift_within : goal.returns-then-shift_within
returns-then-shift_within c = shift_done c.if-shift_within.true c.shift_within.ensures

pub returns-in_err-row : goal.returns-in_err-row
returns-in_err-row c =
    below_kept (shift_kept c.if-shift_within.false c.shift_within.ensures)
    (rw (handed _ c.from_residual.ensures.1) (value-lost _ c.walk.ensures c.told.ensures _ c.in_err-row.was))

pub returns : goal.returns
returns c =
    below_kept (shift_kept c.if-shift_within.false c.shift_within.ensures)
    (value-moved _ c.walk.ensures c.told.ensures _ c.in_ok-row.was c.set_aside.ensures
    c.move_aside.ensures c.told-2.ensures)
