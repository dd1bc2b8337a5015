use mathlib.Core.Path.{refl}
use mathlib.Core.Bool.{true, false}
use Rattle.lexer.proofs.TableLaws.{tables, tested}
use Rattle.lexer.proofs.verbatim.steps.Goals as goal

pub returns-then-escapes : goal.returns-then-escapes
unfolding tested
returns-then-escapes c = tables true _ refl c.if-escapes.true

pub returns : goal.returns
unfolding tested
returns c = tables false _ refl c.if-escapes.false
