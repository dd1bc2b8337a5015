-- `add_element` meets its contract.
use Rattle.spec.proofs.FaultLaws.{handed}
use Rattle.walk.proofs.StepLaws.{index_is}
use Rattle.changes.proofs.ChangeLaws.{element_added, element_refused}
use Rattle.changes.proofs.children.add_element.Goals as goal

pub returns-in_err-at : goal.returns-in_err-at
returns-in_err-at c =
    rw (handed _ c.from_residual.ensures.1)
    (element_refused _ (index_is _ _ _ c.part.ensures _ c.index-i.ensures) _ c.insertion.ensures c.told.ensures _ c.in_err-at.was)

pub returns : goal.returns
returns c =
    element_added _ (index_is _ _ _ c.part.ensures _ c.index-i.ensures) _ c.insertion.ensures c.told.ensures _ c.in_ok-at.was _
    c.no_name.ensures c.put.ensures
