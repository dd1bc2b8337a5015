-- `plain` meets its contract, by what the operation answers.
use mathlib.Core.Path.{refl, sym}
use Rattle.std.specs.Prelude.{Ok, Err}
use Rattle.spec.proofs.FaultLaws.{handed}
use Rattle.undo.specs.Step.{rows_of}
use Rattle.undo.proofs.LoggedLaws.{one_log, no_log}
use Rattle.undo.proofs.MoveLaws.{plain_is}
use Rattle.undo.proofs.moving.plain.Goals as goal

pub returns-in_err-rows : goal.returns-in_err-rows
unfolding rows_of
returns-in_err-rows c = rw (handed _ c.from_residual.ensures.1) (plain_is c.perform.ensures (Err _) (sym c.in_err-rows.was) no_log)

pub returns : goal.returns
unfolding rows_of
returns c = plain_is c.perform.ensures (Ok _) (sym c.in_ok-rows.was) (one_log refl)
