-- `source_of` meets its contract.
use borrow.Author.Tests.{eq-eqb, ne_eqb}
use Rattle.walk.specs.Names.{source_of}
use Rattle.walk.proofs.names.source_of.Goals as goal

pub returns-then-spelling-eq-IN_DOCUMENT : goal.returns-then-spelling-eq-IN_DOCUMENT
unfolding source_of
returns-then-spelling-eq-IN_DOCUMENT c = rw (eq-eqb _ _ c.if-spelling-eq-IN_DOCUMENT.true)

pub returns : goal.returns
unfolding source_of
returns c = rw (ne_eqb _ _ c.if-spelling-eq-IN_DOCUMENT.false)
