-- `move_aside` meets its contract, by what the removal answers.
use Rattle.spec.proofs.FaultLaws.{handed}
use Rattle.operations.proofs.TransferLaws.{aside_refused, aside_done}
use Rattle.operations.proofs.transfers.move_aside.Goals as goal

pub returns-in_err-left : goal.returns-in_err-left
returns-in_err-left c =
    rw (handed _ c.from_residual.ensures.1, ← c.in_err-left.was) (aside_refused _ c.change_at.ensures c.in_err-left.was)

pub returns : goal.returns
returns c = aside_done _ c.change_at.ensures _ c.in_ok-left.was c.change_at-2.ensures
