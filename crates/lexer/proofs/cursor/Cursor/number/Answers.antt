use mathlib.Core.Path.{sym}
use Rattle.spec.specs.Numbers.{number}
use Rattle.spec.specs.Fault.{outcome_by, number_of}
use Rattle.spec.proofs.FaultLaws.{step_ok, step_err}
use Rattle.lexer.proofs.NumberLaws.{number-past_end}
use Rattle.lexer.proofs.cursor.Cursor.number.Goals as goal

pub returns-then-s-start : goal.returns-then-s-start
unfolding number outcome_by number_of
returns-then-s-start c = rw c.at.ensures (sym (number-past_end _ _ c.if-s-start.true))

pub returns-in_err-point : goal.returns-in_err-point
unfolding number
returns-in_err-point c = rw (← c.minus.ensures) (step_err _ _ _ _ c.int.ensures c.in_err-point.was c.from_residual.ensures.1)

pub returns-in_err-letter : goal.returns-in_err-letter
unfolding number
returns-in_err-letter c =
    rw (← c.minus.ensures)
    (step_ok _ _ c.int.ensures c.in_ok-point.was
    (step_err _ _ _ _ c.frac.ensures c.in_err-letter.was c.from_residual-in_err-letter.ensures.1))

pub returns : goal.returns
unfolding number
returns c =
    rw (← c.minus.ensures)
    (step_ok _ _ c.int.ensures c.in_ok-point.was (step_ok _ _ c.frac.ensures c.in_ok-letter.was c.exp.ensures))
