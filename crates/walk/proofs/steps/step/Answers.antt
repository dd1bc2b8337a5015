use native.Mathlib.Omega.{arith}
use Rattle.walk.proofs.StepLaws.{step-array, step-object, step_scalar}
use Rattle.walk.proofs.steps.step.Goals as goal

pub returns-in-5 : goal.returns-in-5
returns-in-5 c = step-array _ c.kind.ensures c.in-5.is c.element.ensures

pub returns-in-6 : goal.returns-in-6
returns-in-6 c = step-object _ c.kind.ensures c.in-6.is c.member.ensures

pub returns-in_default : goal.returns-in_default
returns-in_default c = step_scalar _ c.kind.ensures (λ e. omega arith) (λ e. omega arith)
