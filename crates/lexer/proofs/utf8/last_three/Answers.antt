use native.Mathlib.Omega.{arith}
use Rattle.spec.specs.Strings.{tail}
use Rattle.spec.specs.Fault.{outcome_by, number_of}
use Rattle.spec.proofs.FaultLaws.{step_ok, step_err}
use Rattle.lexer.proofs.AnswerLaws.{byte_known}
use Rattle.lexer.proofs.Auto.{auto}
use Rattle.lexer.proofs.utf8.last_three.Goals as goal

pub overflow_add-at : goal.overflow_add-at
unfolding tail outcome_by number_of
overflow_add-at c = omega (arith, byte_known _ _ _ _ _ (omega arith) c.byte_in.ensures c.in_ok-b.was)

pub overflow_sub-b : goal.overflow_sub-b
unfolding tail outcome_by number_of
overflow_sub-b c = omega (arith, byte_known _ _ _ _ _ (omega arith) c.byte_in.ensures c.in_ok-b.was)

pub last_two-requires : goal.last_two-requires
unfolding tail outcome_by number_of
last_two-requires c = omega (arith, byte_known _ _ _ _ _ (omega arith) c.byte_in.ensures c.in_ok-b.was)

pub returns-in_err-b : goal.returns-in_err-b
unfolding tail
returns-in_err-b c = step_err _ _ _ _ c.byte_in.ensures c.in_err-b.was c.from_residual.ensures.1

pub returns : goal.returns
unfolding tail
returns c = step_ok _ _ c.byte_in.ensures c.in_ok-b.was c.last_two.ensures
