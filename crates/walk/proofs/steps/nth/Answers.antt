use Rattle.walk.proofs.StepLaws.{nth_is}
use Rattle.walk.proofs.steps.nth.Goals as goal

pub returns : goal.returns
returns c = nth_is _ c.child.ensures c.or.ensures
