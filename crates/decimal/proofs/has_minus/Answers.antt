use mathlib.Core.Path.{refl, ◌∙◌}
use Rattle.decimal.proofs.ExponentLaws.{begins_first, negative_begins}
use Rattle.decimal.proofs.has_minus.Goals as goal

pub returns : goal.returns
returns c = c.eq.ensures ∙ begins_first _ c.args.t.now c.first.result _ refl c.first.ensures.value ∙ negative_begins _
