use mathlib.Core.Path.{sym}
use native.Mathlib.Omega.{arith}
use Rattle.spec.specs.Fault.{outcome_by, number_of}
use Rattle.text.proofs.LetterLaws.{plain_ok, plain_inside, past_letter}
use Rattle.text.proofs.letters.letter.Goals as goal

pub overflow_add-result : goal.overflow_add-result
unfolding outcome_by number_of
overflow_add-result c = omega (arith, plain_inside _ _ _ c.plain-b.ensures c.if-b-ne0.true)

pub returns-then-b-ne0 : goal.returns-then-b-ne0
unfolding outcome_by number_of
returns-then-b-ne0 c = sym (plain_ok _ _ _ c.plain-b.ensures c.if-b-ne0.true)

pub returns-then-s-at : goal.returns-then-s-at
unfolding outcome_by number_of
returns-then-s-at c = rw c.at.ensures (sym (past_letter _ _ _ c.if-s-at.true))
