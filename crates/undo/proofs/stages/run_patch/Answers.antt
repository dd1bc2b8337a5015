-- `run_patch` meets its contract, by the patch's shape and by its run.
use Rattle.undo.proofs.StageLaws.{run_misshapen, run_stopped, run-done}
use Rattle.undo.proofs.stages.run_patch.Goals as goal

pub returns-in_err-shape_of : goal.returns-in_err-shape_of
returns-in_err-shape_of c = run_misshapen c.shape_of.ensures _ c.args.work.now _ c.in_err-shape_of.was c.from_residual.ensures.1

pub returns-in_err-logged : goal.returns-in_err-logged
returns-in_err-logged c =
    run_stopped c.shape_of.ensures _ c.args.work.now _ c.in_ok-shape_of.was c.begin.ensures c.run.ensures c.in_err-logged.was
    c.from_residual-in_err-logged.ensures.1

pub returns : goal.returns
returns c =
    run-done c.shape_of.ensures _ c.args.work.now _ c.in_ok-shape_of.was c.begin.ensures c.run.ensures c.in_ok-logged.was c.write_both.ensures
