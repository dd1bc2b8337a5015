use native.Mathlib.Omega.{arith}
use Rattle.spec.specs.Strings.{after_high}
use Rattle.spec.specs.Fault.{outcome_by, number_of}
use Rattle.spec.proofs.FaultLaws.{step_ok, step_err}
use Rattle.lexer.proofs.AnswerLaws.{byte_known}
use Rattle.lexer.proofs.Auto.{auto}
use Rattle.lexer.proofs.escapes.after_high.Goals as goal

pub low_surrogate-requires : goal.low_surrogate-requires
unfolding after_high outcome_by number_of
low_surrogate-requires c = omega (arith, byte_known _ _ _ _ _ (omega arith) c.byte_in-2.ensures c.in_ok-byte_in-2.was)

pub returns-in_err-byte_in : goal.returns-in_err-byte_in
unfolding after_high
returns-in_err-byte_in c = step_err _ _ _ _ c.byte_in.ensures c.in_err-byte_in.was c.from_residual.ensures.1

pub returns-in_err-byte_in-2 : goal.returns-in_err-byte_in-2
unfolding after_high
returns-in_err-byte_in-2 c = step_ok _ _ c.byte_in.ensures c.in_ok-byte_in.was (step_err _ _ _ _ c.byte_in-2.ensures c.in_err-byte_in-2.was c.from_residual-in_err-byte_in-2.ensures.1)

pub returns : goal.returns
unfolding after_high
returns c = step_ok _ _ c.byte_in.ensures c.in_ok-byte_in.was (step_ok _ _ c.byte_in-2.ensures c.in_ok-byte_in-2.was c.low_surrogate.ensures)
