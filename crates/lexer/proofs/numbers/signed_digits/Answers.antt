use Rattle.spec.specs.Numbers.{signed_digits}
use Rattle.spec.proofs.FaultLaws.{step_ok, step_err}
use Rattle.lexer.proofs.Auto.{auto}
use Rattle.lexer.proofs.numbers.signed_digits.Goals as goal

pub returns-in_err-next : goal.returns-in_err-next
unfolding signed_digits
returns-in_err-next c = step_err _ _ _ _ c.sign.ensures c.in_err-next.was c.from_residual.ensures.1

pub returns-in_err-byte_in : goal.returns-in_err-byte_in
unfolding signed_digits
returns-in_err-byte_in c = step_ok _ _ c.sign.ensures c.in_ok-next.was (step_err _ _ _ _ c.byte_in.ensures c.in_err-byte_in.was c.from_residual-in_err-byte_in.ensures.1)

pub returns : goal.returns
unfolding signed_digits
returns c = step_ok _ _ c.sign.ensures c.in_ok-next.was (step_ok _ _ c.byte_in.ensures c.in_ok-byte_in.was c.exponent_digits.ensures)
