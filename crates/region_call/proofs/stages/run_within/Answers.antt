-- `run_within` meets its contract, by the region, by the patch's shape in it and by its run.
use mathlib.Core.Path.{sym, ◌∙◌}
use Rattle.spec.specs.Fault.{number_of}
use Rattle.region_call.proofs.StageLaws.{region_malformed, within_misshapen, within_stopped, within-done}
use Rattle.region_call.proofs.stages.run_within.Goals as goal

pub returns-then-not-is_region : goal.returns-then-not-is_region
unfolding number_of
returns-then-not-is_region c = region_malformed _ (sym c.is_region.ensures ∙ c.if-not-is_region.true) c.refusal_answer.ensures

pub returns-in_err-shape_within : goal.returns-in_err-shape_within
returns-in_err-shape_within c =
    within_misshapen c.shape_within.ensures (sym c.is_region.ensures ∙ c.if-not-is_region.false) _
    c.in_err-shape_within.was c.from_residual.ensures.1

pub returns-in_err-run : goal.returns-in_err-run
returns-in_err-run c =
    within_stopped c.shape_within.ensures (sym c.is_region.ensures ∙ c.if-not-is_region.false) _ c.in_ok-shape_within.was
    c.run.ensures c.in_err-run.was c.from_residual-in_err-run.ensures.1

pub returns : goal.returns
returns c =
    within-done c.shape_within.ensures (sym c.is_region.ensures ∙ c.if-not-is_region.false) _ c.in_ok-shape_within.was
    c.run.ensures c.in_ok-run.was c.write_out.ensures
