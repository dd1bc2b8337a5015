use Rattle.std.proofs.Common.{arith}
use borrow.Author.Tests.{eq-eqb, ne_eqb}
use Rattle.lexer.proofs.AnswerLaws.{scalar_ok, character_refused}
use Rattle.spec.specs.Fault.{outcome_by, number_of}
use Rattle.text.specs.Letters.{after_tilde}
use Rattle.text.proofs.letters.after_tilde.Goals as goal

pub returns-in_default : goal.returns-in_default
unfolding after_tilde outcome_by number_of
returns-in_default c = rw (character_refused _ c.string_letter.ensures c.in_default.is)

pub returns-in-48 : goal.returns-in-48
unfolding after_tilde outcome_by number_of
returns-in-48 c = rw (scalar_ok _ c.string_letter.ensures c.in-Ok.is, eq-eqb _ _ c.in-48.is)

pub returns-in-49 : goal.returns-in-49
unfolding after_tilde outcome_by number_of
returns-in-49 c = rw (scalar_ok _ c.string_letter.ensures c.in-Ok.is, c.in-49.is)

pub returns-in_default-code : goal.returns-in_default-code
unfolding after_tilde outcome_by number_of
returns-in_default-code c =
    rw (
      scalar_ok _ c.string_letter.ensures c.in-Ok.is,
      ne_eqb c.in-Ok.c.code 0x30 (λ e. omega (arith, e)),
      ne_eqb c.in-Ok.c.code 0x31 (λ e. omega (arith, e)),
    )
