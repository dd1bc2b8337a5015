use mathlib.Core.Path.{sym, ◌∙◌}
use Rattle.spec.proofs.TextLaws.{compared}
use Rattle.text.proofs.CompareLaws.{same_parts}
use Rattle.text.proofs.compare.same_text.Goals as goal

pub returns-then-eq : goal.returns-then-eq
returns-then-eq c = same_parts _ _ _ _ c.if-form-other.true (sym (compared _ _) ∙ sym c.eq.ensures ∙ c.if-eq.true)
