use borrow.Author.Tests.{ne_eqb}
use Rattle.spec.specs.Outcome.{◌>>=◌}
use Rattle.spec.specs.Fault.{outcome_by}
use Rattle.spec.proofs.FaultLaws.{handed}
use Rattle.lexer.proofs.AnswerLaws.{scalar_ok, character_refused}
use Rattle.text.specs.Letters.{token_letter, token_step}
use Rattle.text.proofs.letters.token_letter.Goals as goal

pub returns-in_err-c : goal.returns-in_err-c
unfolding token_letter ◌>>=◌ outcome_by
returns-in_err-c c = rw (character_refused _ c.string_letter.ensures c.in_err-c.was, handed _ c.from_residual.ensures.1)

pub returns-then-c-eq126 : goal.returns-then-c-eq126
unfolding token_letter token_step ◌>>=◌ outcome_by
returns-then-c-eq126 c =
    rw (scalar_ok _ c.string_letter.ensures c.in_ok-c.was, c.if-c-eq126.true, c.after_tilde.ensures)

pub returns : goal.returns
unfolding token_letter token_step ◌>>=◌ outcome_by
returns c = rw (scalar_ok _ c.string_letter.ensures c.in_ok-c.was, ne_eqb _ _ c.if-c-eq126.false)
