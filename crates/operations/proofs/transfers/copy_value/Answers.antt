-- `copy_value` meets its contract, by what the walk leads to.
use Rattle.spec.proofs.FaultLaws.{handed}
use Rattle.operations.proofs.TransferLaws.{copy_done, copy_refused}
use Rattle.operations.proofs.transfers.copy_value.Goals as goal

pub returns-in_err-row : goal.returns-in_err-row
returns-in_err-row c = rw (handed _ c.from_residual.ensures.1) (copy_refused _ c.walk.ensures c.told.ensures _ _ c.in_err-row.was)

pub returns : goal.returns
returns c =
    copy_done _ c.walk.ensures c.told.ensures _ _ c.in_ok-row.was c.set_aside.ensures
    c.stamp_aside.ensures c.change_at.ensures c.told-2.ensures
