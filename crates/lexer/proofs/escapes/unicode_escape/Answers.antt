use native.Mathlib.Omega.{arith}
use Rattle.spec.specs.Outcome.{◌>>=◌}
use Rattle.spec.specs.Bytes.{within}
use Rattle.spec.specs.Strings.{unicode_escape}
use Rattle.spec.specs.Fault.{outcome_by}
use Rattle.spec.proofs.FaultLaws.{step_ok, step_err}
use Rattle.lexer.proofs.AnswerLaws.{hex_known}
use Rattle.lexer.proofs.Auto.{auto}
use Rattle.lexer.proofs.escapes.unicode_escape.Goals as goal

pub returns-in_err-a : goal.returns-in_err-a
unfolding unicode_escape
returns-in_err-a c = step_err _ _ _ _ c.hex_in.ensures c.in_err-a.was c.from_residual.ensures.1

pub returns-in_err-b : goal.returns-in_err-b
unfolding unicode_escape
returns-in_err-b c =
    step_ok _ _ c.hex_in.ensures c.in_ok-a.was
    (rw (← c.second_limit.ensures) (step_err _ _ _ _ c.hex_in-2.ensures c.in_err-b.was c.from_residual-in_err-b.ensures.1))

pub returns-in_err-c : goal.returns-in_err-c
unfolding unicode_escape
returns-in_err-c c =
    step_ok _ _ c.hex_in.ensures c.in_ok-a.was
    (rw (← c.second_limit.ensures) (step_ok _ _ c.hex_in-2.ensures c.in_ok-b.was
    (step_err _ _ _ _ c.hex_in-3.ensures c.in_err-c.was c.from_residual-in_err-c.ensures.1)))

pub returns-in_err-d : goal.returns-in_err-d
unfolding unicode_escape
returns-in_err-d c =
    step_ok _ _ c.hex_in.ensures c.in_ok-a.was
    (rw (← c.second_limit.ensures) (step_ok _ _ c.hex_in-2.ensures c.in_ok-b.was
    (step_ok _ _ c.hex_in-3.ensures c.in_ok-c.was (step_err _ _ _ _ c.hex_in-4.ensures c.in_err-d.was c.from_residual-in_err-d.ensures.1))))

pub after_high-requires : goal.after_high-requires
after_high-requires c = omega (arith, hex_known _ _ _ _ _ (omega arith) c.hex_in-4.ensures c.in_ok-d.was)

pub returns-in-55296-to-56319 : goal.returns-in-55296-to-56319
unfolding unicode_escape within
returns-in-55296-to-56319 c =
    step_ok _ _ c.hex_in.ensures c.in_ok-a.was
    (rw (← c.second_limit.ensures) (step_ok _ _ c.hex_in-2.ensures c.in_ok-b.was
    (step_ok _ _ c.hex_in-3.ensures c.in_ok-c.was (step_ok _ _ c.hex_in-4.ensures c.in_ok-d.was (rw (← c.hex_number-u.ensures) (search auto))))))

pub returns-in_default : goal.returns-in_default
unfolding unicode_escape within outcome_by
returns-in_default c =
    step_ok _ _ c.hex_in.ensures c.in_ok-a.was
    (rw (← c.second_limit.ensures) (step_ok _ _ c.hex_in-2.ensures c.in_ok-b.was
    (step_ok _ _ c.hex_in-3.ensures c.in_ok-c.was (step_ok _ _ c.hex_in-4.ensures c.in_ok-d.was (rw (← c.hex_number-u.ensures) (search auto))))))

pub returns-in_default-2 : goal.returns-in_default-2
unfolding unicode_escape within outcome_by
returns-in_default-2 c =
    step_ok _ _ c.hex_in.ensures c.in_ok-a.was
    (rw (← c.second_limit.ensures) (step_ok _ _ c.hex_in-2.ensures c.in_ok-b.was
    (step_ok _ _ c.hex_in-3.ensures c.in_ok-c.was (step_ok _ _ c.hex_in-4.ensures c.in_ok-d.was (rw (← c.hex_number-u.ensures) (search auto))))))
