-- `same_name` meets its contract.
use native.Mathlib.Omega.{arith}
use mathlib.Core.Path.{◌∙◌}
use borrow.Author.Tests.{ne_eqb}
use Rattle.tape.specs.Lent.{both}
use Rattle.table.proofs.Search.{other-named, hash-named}
use Rattle.table.proofs.find.same_name.Goals as goal

pub returns-then-a-b : goal.returns-then-a-b
returns-then-a-b c = hash-named (both c.args.texts) c.args.a _ _ (omega (arith, c.if-a-b.true)) c.same_spelling.ensures

pub returns-else-a-b : goal.returns-else-a-b
returns-else-a-b c = ne_eqb _ _ c.if-a-b.false ∙ other-named _ _ _ _ c.if-a-b.false
