-- `run_patch` meets its contract, by the patch's shape.
use Rattle.listing.proofs.StageLaws.{listed_misshapen, listed_right}
use Rattle.listing.proofs.stages.run_patch.Goals as goal

pub returns-in_err-shape_of : goal.returns-in_err-shape_of
returns-in_err-shape_of c = listed_misshapen c.shape_of.ensures _ c.in_err-shape_of.was c.from_residual.ensures.1

pub returns : goal.returns
returns c = listed_right c.shape_of.ensures _ c.in_ok-shape_of.was c.run_listed.ensures
