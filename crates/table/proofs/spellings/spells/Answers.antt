-- `spells` meets its contract, by those of `part` and of the comparison with a constant; what is too short is another text.
use native.Mathlib.Omega.{arith}
use borrow.Author.Tests.{lt-leb}
use mathlib.Core.Path.{◌∙◌, ap, ap₂}
use Rattle.spec.specs.Value.{same_text}
use Rattle.text.specs.Decode.{text_of}
use Rattle.table.specs.Meaning.{spelled}
use Rattle.table.proofs.Lengths.{too_short}
use Rattle.table.proofs.spellings.spells.Goals as goal

pub returns-then-text-wide : goal.returns-then-text-wide
unfolding spelled
returns-then-text-wide c = c.same_ascii.ensures ∙ ap (λ t. same_text t c.args.text.now)
    (ap₂ text_of c.long.ensures c.part.ensures)

pub returns-else-text-wide : goal.returns-else-text-wide
unfolding spelled
returns-else-text-wide c = lt-leb _ _ (omega arith) ∙ too_short _ _ _ (omega arith)
