-- `is_named` meets its contract.
use native.Mathlib.Omega.{arith}
use mathlib.Core.Path.{◌∙◌}
use borrow.Author.Tests.{ne_eqb}
use Rattle.tape.specs.Lent.{both}
use Rattle.table.proofs.Search.{other-named, hash-named}
use Rattle.table.proofs.find.is_named.Goals as goal

pub returns-then-own-h : goal.returns-then-own-h
returns-then-own-h c = hash-named (both c.args.texts) c.args.own _ _ (omega (arith, c.if-own-h.true)) c.spells.ensures

pub returns-else-own-h : goal.returns-else-own-h
returns-else-own-h c = ne_eqb _ _ c.if-own-h.false ∙ other-named _ _ _ _ c.if-own-h.false
