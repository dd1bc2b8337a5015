-- A text that is the word of a kind names that kind.
use mathlib.Core.Path.{sym, ap, ◌∙◌}
use Rattle.spec.specs.Patch.{kind_named}
use Rattle.spec.proofs.TextLaws.{same_text_true}
use Rattle.lexer.proofs.Tests.{told}
use Rattle.shape.specs.Kinds.{kind_outcome}
use Rattle.shape.proofs.kinds.likely_kind.Goals as goal

pub returns-then-spells : goal.returns-then-spells
unfolding kind_outcome
returns-then-spells c = c.requires ∙ ap kind_named (sym (same_text_true _ _ (told c.spells.ensures c.if-spells.true)))
