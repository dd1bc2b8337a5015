-- `shaped` meets its contract, by the patch's shape.
use Rattle.inspect.proofs.StageLaws.{shape_refused, shape-counted}
use Rattle.inspect.proofs.stages.shaped.Goals as goal

pub returns-in_err-shape_of : goal.returns-in_err-shape_of
returns-in_err-shape_of c = shape_refused c.shape_of.ensures _ c.in_err-shape_of.was c.from_residual.ensures.1

pub returns : goal.returns
returns c = shape-counted c.shape_of.ensures c.in_ok-shape_of.was c.end_of-end.ensures c.counted.ensures
