-- `run_listed` meets its contract, by the run.
use Rattle.listing.proofs.StageLaws.{listed_stopped, listed-done}
use Rattle.listing.proofs.stages.run_listed.Goals as goal

pub returns-in_err-rows : goal.returns-in_err-rows
returns-in_err-rows c = listed_stopped c.stamp_texts.ensures c.run.ensures _ c.in_err-rows.was c.from_residual.ensures.1

pub returns : goal.returns
returns c = listed-done c.stamp_texts.ensures c.run.ensures _ c.in_ok-rows.was c.write_listed.ensures
