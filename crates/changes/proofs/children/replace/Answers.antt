-- `replace` meets its contract.
use Rattle.spec.proofs.FaultLaws.{handed}
use Rattle.changes.proofs.ChangeLaws.{replace_done, replace_refused}
use Rattle.changes.proofs.children.replace.Goals as goal

pub returns-in_err-at : goal.returns-in_err-at
returns-in_err-at c =
    rw (handed _ c.from_residual.ensures.1) (replace_refused _ c.step.ensures c.told.ensures _ c.in_err-at.was)

pub returns : goal.returns
returns c = replace_done _ c.step.ensures c.told.ensures _ c.in_ok-at.was c.replace_child.ensures
