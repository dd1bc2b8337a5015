use mathlib.Core.Path.{refl}
use native.Mathlib.Omega.{arith}
use Rattle.spec.specs.Strings.{tail}
use Rattle.spec.specs.Fault.{outcome_by, number_of}
use Rattle.spec.proofs.FaultLaws.{step_ok, step_err}
use Rattle.lexer.proofs.AnswerLaws.{byte_known}
use Rattle.lexer.proofs.Auto.{auto}
use Rattle.lexer.proofs.utf8.last.Goals as goal

pub overflow_sub-result : goal.overflow_sub-result
unfolding tail outcome_by number_of
overflow_sub-result c = omega (arith, byte_known _ _ _ _ _ (omega arith) c.byte_in.ensures c.in_ok-b.was)

pub overflow_add-result-2 : goal.overflow_add-result-2
unfolding tail outcome_by number_of
overflow_add-result-2 c = omega (arith, byte_known _ _ _ _ _ (omega arith) c.byte_in.ensures c.in_ok-b.was)

pub returns-in_err-b : goal.returns-in_err-b
unfolding tail
returns-in_err-b c = step_err _ _ _ _ c.byte_in.ensures c.in_err-b.was c.from_residual.ensures.1

pub returns : goal.returns
unfolding tail outcome_by
returns c = step_ok _ _ c.byte_in.ensures c.in_ok-b.was refl
