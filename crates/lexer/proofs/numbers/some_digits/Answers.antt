use Rattle.spec.specs.Numbers.{some_digits}
use Rattle.spec.specs.Fault.{outcome_by, number_of}
use Rattle.spec.proofs.FaultLaws.{step_ok, step_err}
use Rattle.lexer.proofs.Auto.{auto}
use Rattle.lexer.proofs.numbers.some_digits.Goals as goal

pub returns-in_err-byte_in : goal.returns-in_err-byte_in
unfolding some_digits
returns-in_err-byte_in c = step_err _ _ _ _ c.byte_in.ensures c.in_err-byte_in.was c.from_residual.ensures.1

pub returns : goal.returns
unfolding some_digits
returns c = step_ok _ _ c.byte_in.ensures c.in_ok-byte_in.was c.digits.ensures
