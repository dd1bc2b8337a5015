use native.Mathlib.Omega.{arith}
use Rattle.spec.specs.Strings.{low_surrogate}
use Rattle.spec.specs.Fault.{outcome_by}
use Rattle.spec.proofs.FaultLaws.{step_ok, step_err}
use Rattle.lexer.proofs.AnswerLaws.{hex_known}
use Rattle.lexer.proofs.escapes.low_surrogate.Goals as goal

pub pair-requires : goal.pair-requires
pair-requires c = omega (arith, hex_known _ _ _ _ _ (omega arith) c.hex_in-2.ensures c.in_ok-b.was)

pub returns-in_err-hex_in : goal.returns-in_err-hex_in
unfolding low_surrogate
returns-in_err-hex_in c = step_err _ _ _ _ c.hex_in.ensures c.in_err-hex_in.was c.from_residual.ensures.1

pub returns-in_err-b : goal.returns-in_err-b
unfolding low_surrogate
returns-in_err-b c = step_ok _ _ c.hex_in.ensures c.in_ok-hex_in.was (step_err _ _ _ _ c.hex_in-2.ensures c.in_err-b.was c.from_residual-in_err-b.ensures.1)

pub returns-in_err-c : goal.returns-in_err-c
unfolding low_surrogate
returns-in_err-c c = step_ok _ _ c.hex_in.ensures c.in_ok-hex_in.was (step_ok _ _ c.hex_in-2.ensures c.in_ok-b.was (step_err _ _ _ _ c.hex_in-3.ensures c.in_err-c.was c.from_residual-in_err-c.ensures.1))

pub returns-in_err-d : goal.returns-in_err-d
unfolding low_surrogate
returns-in_err-d c = step_ok _ _ c.hex_in.ensures c.in_ok-hex_in.was (step_ok _ _ c.hex_in-2.ensures c.in_ok-b.was (step_ok _ _ c.hex_in-3.ensures c.in_ok-c.was (step_err _ _ _ _ c.hex_in-4.ensures c.in_err-d.was c.from_residual-in_err-d.ensures.1)))

pub returns : goal.returns
unfolding low_surrogate outcome_by
returns c =
    step_ok _ _ c.hex_in.ensures c.in_ok-hex_in.was (step_ok _ _ c.hex_in-2.ensures c.in_ok-b.was
    (step_ok _ _ c.hex_in-3.ensures c.in_ok-c.was (step_ok _ _ c.hex_in-4.ensures c.in_ok-d.was (rw c.pair.ensures))))
