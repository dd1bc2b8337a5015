-- `move_apart` meets its contract, by what the removal and the addition answer.
use mathlib.Core.Path.{refl, sym, ◌∙◌}
use Rattle.std.specs.Prelude.{Ok, Err}
use Rattle.spec.proofs.FaultLaws.{handed}
use Rattle.operations.proofs.AnswerLaws.{told_ok, told_err}
use Rattle.undo.specs.Step.{rows_of}
use Rattle.undo.proofs.LoggedLaws.{one_log, no_log}
use Rattle.undo.proofs.MoveLaws.{apart_refused, apart-done}
use Rattle.undo.proofs.moving.move_apart.Goals as goal

pub returns-in_err-left : goal.returns-in_err-left
unfolding rows_of
returns-in_err-left c =
    let (f, refused, failure) = told_err _ _ c.told.ensures c.in_err-left.was in
    rw (handed _ c.from_residual.ensures.1)
    (apart_refused c.set_aside.ensures _ c.change_at.ensures refused (Err _) (sym c.in_err-left.was ∙ c.told.ensures))

pub returns-in_err-rows : goal.returns-in_err-rows
unfolding rows_of
returns-in_err-rows c =
    rw (handed _ c.from_residual-in_err-rows.ensures.1)
    (apart-done c.set_aside.ensures _ c.change_at.ensures _ (told_ok _ _ c.told.ensures c.in_ok-left.was) c.mend-log.ensures _ c.change_at-2.ensures
    (Err _) (sym c.in_err-rows.was ∙ c.told-2.ensures) no_log)

pub returns : goal.returns
unfolding rows_of
returns c =
    apart-done c.set_aside.ensures _ c.change_at.ensures _ (told_ok _ _ c.told.ensures c.in_ok-left.was) c.mend-log.ensures _ c.change_at-2.ensures
    (Ok _) (sym c.in_ok-rows.was ∙ c.told-2.ensures) (one_log refl)
