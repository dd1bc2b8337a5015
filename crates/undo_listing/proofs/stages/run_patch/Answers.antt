-- `run_patch` meets its contract, by the patch's shape and by its run.
use mathlib.Core.Path.{◌∙◌}
use Rattle.undo_listing.proofs.StageLaws.{run_misshapen, run_stopped, run-done}
use Rattle.undo_listing.proofs.stages.run_patch.Goals as goal

pub returns-in_err-shape_of : goal.returns-in_err-shape_of
returns-in_err-shape_of c = run_misshapen c.shape_of.ensures c.args.work.now _ c.in_err-shape_of.was c.from_residual.ensures.1

pub returns-in_err-logged : goal.returns-in_err-logged
returns-in_err-logged c =
    run_stopped c.shape_of.ensures c.args.work.now _ c.in_ok-shape_of.was c.stamp_texts.ensures c.begin.ensures c.run.ensures c.in_err-logged.was
    c.from_residual-in_err-logged.ensures.1

pub shape_of-output : goal.shape_of-output
shape_of-output c = c.write_all.auto.output

pub shape_of-undo : goal.shape_of-undo
shape_of-undo c = c.write_all.auto.undo

pub shape_of-origins : goal.shape_of-origins
shape_of-origins c = c.write_all.auto.origins

pub shape_of-nodes : goal.shape_of-nodes
shape_of-nodes c =
    c.run.auto.nodes ∙ c.stamp_texts.auto.nodes

pub shape_of-index : goal.shape_of-index
shape_of-index c =
    c.run.auto.index

pub shape_of-work : goal.shape_of-work
shape_of-work c =
    c.run.auto.work ∙ c.begin.auto.work

pub returns : goal.returns
returns c =
    run-done c.shape_of.ensures c.args.work.now _ c.in_ok-shape_of.was c.stamp_texts.ensures c.begin.ensures c.run.ensures c.in_ok-logged.was
    c.write_all.ensures
