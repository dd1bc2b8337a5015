-- `equal_to` meets its contract, by what the walk leads to and by what the comparison answers.
use Rattle.spec.proofs.FaultLaws.{handed}
use Rattle.operations.proofs.PerformLaws.{test_lost, test_equal, test_unequal}
use Rattle.operations.proofs.perform.equal_to.Goals as goal

pub returns-in_err-row : goal.returns-in_err-row
returns-in_err-row c = rw (handed _ c.from_residual.ensures.1) (test_lost c.walk.ensures c.in_err-row.was)

pub returns-then-not-compare : goal.returns-then-not-compare
returns-then-not-compare c =
    rw c.at.ensures (test_unequal c.walk.ensures _ c.in_ok-row.was c.compare.ensures c.if-not-compare.true)

pub returns : goal.returns
returns c = test_equal c.walk.ensures _ c.in_ok-row.was c.compare.ensures c.if-not-compare.false
