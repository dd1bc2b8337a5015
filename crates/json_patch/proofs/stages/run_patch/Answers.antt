-- `run_patch` meets its contract, by the patch's shape and by its run.
use Rattle.json_patch.proofs.StageLaws.{patch_misshapen, patch_stopped, patch-done}
use Rattle.json_patch.proofs.stages.run_patch.Goals as goal

pub returns-in_err-shape_of : goal.returns-in_err-shape_of
returns-in_err-shape_of c = patch_misshapen c.shape_of.ensures _ c.in_err-shape_of.was c.from_residual.ensures.1

pub returns-in_err-run : goal.returns-in_err-run
returns-in_err-run c = patch_stopped c.shape_of.ensures c.in_ok-shape_of.was c.run.ensures _ c.in_err-run.was c.from_residual-in_err-run.ensures.1

pub returns : goal.returns
returns c = patch-done c.shape_of.ensures c.in_ok-shape_of.was c.run.ensures _ c.in_ok-run.was c.write_out.ensures
