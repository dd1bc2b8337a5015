use mathlib.Core.Path.{sym}
use native.Mathlib.Omega.{arith}
use borrow.Author.Tests.{ne_eqb}
use Rattle.spec.specs.Bytes.{within}
use Rattle.spec.specs.Strings.{escape}
use Rattle.spec.specs.Fault.{outcome_by, number_of}
use Rattle.lexer.proofs.ByteLaws.{here}
use Rattle.lexer.proofs.StringLaws.{short_escape-inside}
use Rattle.lexer.proofs.Auto.{auto}
use Rattle.lexer.proofs.escapes.escape.Goals as goal

pub overflow_add-at : goal.overflow_add-at
unfolding escape within outcome_by number_of
overflow_add-at c = omega (arith, here _ _ _ (sym c.peek-b.ensures) (omega arith))

pub unicode_escape-requires : goal.unicode_escape-requires
unfolding escape within outcome_by number_of
unicode_escape-requires c = omega (arith, here _ _ _ (sym c.peek-b.ensures) (omega arith))

pub returns-then-b-eq117 : goal.returns-then-b-eq117
unfolding escape within outcome_by number_of
returns-then-b-eq117 c = rw (← c.peek-b.ensures) (search auto)

pub returns-then-e-eq0 : goal.returns-then-e-eq0
unfolding escape within outcome_by number_of
returns-then-e-eq0 c = rw (← c.peek-b.ensures, ← c.short_escape-e.ensures) (search auto)

pub overflow_add-result : goal.overflow_add-result
unfolding escape within outcome_by number_of
overflow_add-result c =
    let e = rw (c.short_escape-e.ensures, c.peek-b.ensures) at (ne_eqb c.short_escape-e.result 0 c.if-e-eq0.false) in
    omega (arith, short_escape-inside _ _ e)

pub returns : goal.returns
unfolding escape within outcome_by number_of
returns c = rw (← c.peek-b.ensures, ← c.short_escape-e.ensures) (search auto)
