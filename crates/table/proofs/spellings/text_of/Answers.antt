-- `text_of` meets its contract, by the test on the source.
use borrow.Author.Tests.{eq-eqb, ne_eqb}
use Rattle.table.specs.Meaning.{source_text}
use Rattle.table.proofs.spellings.text_of.Goals as goal

pub returns-then-source-eq-IN_DOCUMENT : goal.returns-then-source-eq-IN_DOCUMENT
unfolding source_text
returns-then-source-eq-IN_DOCUMENT c = rw (eq-eqb _ _ c.if-source-eq-IN_DOCUMENT.true)

pub returns-else-source-eq-IN_DOCUMENT : goal.returns-else-source-eq-IN_DOCUMENT
unfolding source_text
returns-else-source-eq-IN_DOCUMENT c = rw (ne_eqb _ _ c.if-source-eq-IN_DOCUMENT.false)
