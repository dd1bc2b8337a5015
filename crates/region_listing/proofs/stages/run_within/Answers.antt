-- `run_within` meets its contract, by the region and by the patch's shape in it.
use mathlib.Core.Path.{sym, ◌∙◌}
use Rattle.spec.specs.Fault.{number_of}
use Rattle.region_listing.proofs.StageLaws.{region_malformed, within_misshapen, within_right}
use Rattle.region_listing.proofs.stages.run_within.Goals as goal

pub returns-then-not-is_region : goal.returns-then-not-is_region
unfolding number_of
returns-then-not-is_region c = region_malformed _ (sym c.is_region.ensures ∙ c.if-not-is_region.true) c.refusal_answer.ensures

pub returns-in_err-shape_within : goal.returns-in_err-shape_within
returns-in_err-shape_within c =
    within_misshapen c.shape_within.ensures (sym c.is_region.ensures ∙ c.if-not-is_region.false) _
    c.in_err-shape_within.was c.from_residual.ensures.1

pub returns : goal.returns
returns c =
    within_right c.shape_within.ensures (sym c.is_region.ensures ∙ c.if-not-is_region.false) _
    c.in_ok-shape_within.was c.run_listed.ensures
