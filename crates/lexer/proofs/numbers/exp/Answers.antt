use borrow.Author.Tests.{not-true, not-false}
use Rattle.spec.specs.Numbers.{exp}
use Rattle.spec.specs.Fault.{outcome_by}
use Rattle.spec.proofs.FaultLaws.{step_ok, step_err}
use Rattle.lexer.proofs.Auto.{auto}
use Rattle.lexer.proofs.numbers.exp.Goals as goal

pub returns-then-not-is_e : goal.returns-then-not-is_e
unfolding exp outcome_by
returns-then-not-is_e c =
    rw (← c.peek.ensures, ← c.is_e.ensures, not-true c.is_e.result c.if-not-is_e.true-raw) (search auto)

pub returns-in_err-next : goal.returns-in_err-next
unfolding exp
returns-in_err-next c =
    rw (← c.peek.ensures, ← c.is_e.ensures, not-false c.is_e.result c.if-not-is_e.false-raw)
    (step_err _ _ _ _ c.counted.ensures c.in_err-next.was c.from_residual.ensures.1)

pub returns : goal.returns
unfolding exp
returns c =
    rw (← c.peek.ensures, ← c.is_e.ensures, not-false c.is_e.result c.if-not-is_e.false-raw)
    (step_ok _ _ c.counted.ensures c.in_ok-next.was c.signed_digits.ensures)
