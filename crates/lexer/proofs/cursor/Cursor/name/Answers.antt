use native.Mathlib.Omega.{arith}
use Rattle.spec.specs.Outcome.{◌>>=◌}
use Rattle.spec.specs.Strings.{string}
use Rattle.spec.specs.Fault.{outcome_by}
use Rattle.lexer.specs.Names.{kept_of}
use Rattle.spec.proofs.FaultLaws.{answer_ok, answer_refused, handed}
use Rattle.lexer.proofs.AnswerLaws.{byte_known}
use Rattle.lexer.proofs.cursor.Cursor.name.Goals as goal

pub overflow_add-at : goal.overflow_add-at
overflow_add-at c = omega (arith, byte_known _ _ _ _ _ (omega arith) c.byte_in.ensures c.in_ok-byte_in.was)

pub returns-in_err-byte_in : goal.returns-in_err-byte_in
unfolding string kept_of ◌>>=◌ outcome_by
returns-in_err-byte_in c = rw (answer_refused _ _ c.byte_in.ensures c.in_err-byte_in.was, handed _ c.from_residual.ensures.1)

pub returns : goal.returns
unfolding string kept_of ◌>>=◌
returns c = rw (answer_ok _ _ c.byte_in.ensures c.in_ok-byte_in.was) c.name_characters.ensures
