-- `alter` meets its contract; the levels below fall.
use native.Mathlib.Omega.{arith}
use mathlib.Core.Path.{refl}
use Rattle.spec.proofs.FaultLaws.{handed}
use Rattle.changes.proofs.KeptLaws.{frame_done}
use Rattle.changes.proofs.TokenLaws.{token-read}
use Rattle.changes.proofs.AlterLaws.{alter_last, alter_refused, alter_flat, alter_outside, alter_done, alter_not}
use Rattle.changes.proofs.alter.+alter.Goals as goal

pub returns-in_default : goal.returns-in_default
returns-in_default t c =
    let read = token-read _ c.part.ensures c.token-t.ensures c.token_name-name.ensures in
    alter_last read _ c.in_default.is c.change_child.ensures

pub returns-in_err-child : goal.returns-in_err-child
returns-in_err-child t c =
    let read = token-read _ c.part.ensures c.token-t.ensures c.token_name-name.ensures in
    rw (handed _ c.from_residual.ensures.1) (alter_refused read _ c.step.ensures c.in-Next.is c.told.ensures _ c.in_err-child.was)

pub returns-then-parent-eq0 : goal.returns-then-parent-eq0
returns-then-parent-eq0 t c =
    let read = token-read _ c.part.ensures c.token-t.ensures c.token_name-name.ensures in
    rw c.at.ensures
    (alter_flat _ _ read c.in-Next.is _ refl _ c.step.ensures c.told.ensures _ c.in_ok-child.was c.if-parent-eq0.true _ c.walked.ensures)

pub returns-then-parent-child : goal.returns-then-parent-child
returns-then-parent-child t c =
    let read = token-read _ c.part.ensures c.token-t.ensures c.token_name-name.ensures in
    alter_outside _ _ read c.in-Next.is _ refl _ c.step.ensures c.told.ensures _ c.in_ok-child.was _ c.if-parent-child.true

pub returns-in_err-rows : goal.returns-in_err-rows
returns-in_err-rows t c =
    let read = token-read _ c.part.ensures c.token-t.ensures c.token_name-name.ensures in
    rw (handed _ c.from_residual-in_err-rows.ensures.1)
    (alter_not _ _ read c.in-Next.is _ refl _ c.step.ensures c.told.ensures _ c.in_ok-child.was _ (omega (arith, c.if-parent-eq0.false)) _
    c.alter.ensures _ c.in_err-rows.was)

pub resize-requires : goal.resize-requires
resize-requires t c =
    (frame_done c.in_ok-rows.was c.alter.ensures.frame).0

pub returns : goal.returns
returns t c =
    let read = token-read _ c.part.ensures c.token-t.ensures c.token_name-name.ensures in
    alter_done _ _ read c.in-Next.is _ refl _ c.step.ensures c.told.ensures _ c.in_ok-child.was _ (omega (arith, c.if-parent-eq0.false)) _
    c.alter.ensures _ c.in_ok-rows.was c.resize.ensures
