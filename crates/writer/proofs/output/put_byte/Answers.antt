-- `put_byte` meets its contract: it stores the byte where there is room for it.
use mathlib.Core.Path.{sym, ◌∙◌}
use mathlib.Core.List.{[], ◌∷◌}
use borrow.Author.Tests.{eqb-true}
use Rattle.writer.proofs.PlacedLaws.{placed-full}
use Rattle.writer.proofs.output.put_byte.Goals as goal

pub returns-then-is_empty : goal.returns-then-is_empty
returns-then-is_empty c = placed-full (c.args.byte ∷ []) _ (eqb-true _ _ (sym c.is_empty.ensures ∙ c.if-is_empty.true))
