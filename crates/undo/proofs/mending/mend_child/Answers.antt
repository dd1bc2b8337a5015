-- `mend_child` meets its contract, by the kind of the parent.
use mathlib.Core.Path.{◌∙◌}
use borrow.Author.Tests.{eq-eqb, ne_eqb}
use Rattle.undo.proofs.SiteLaws.{row-array}
use Rattle.undo.proofs.mending.mend_child.Goals as goal

pub returns-then-kind-eq-ARRAY : goal.returns-then-kind-eq-ARRAY
returns-then-kind-eq-ARRAY c t ts p z other os noted = c.mend_element.ensures t ts p z (row-array z.parent _ c.kind.ensures ∙ eq-eqb _ _
    c.if-kind-eq-ARRAY.true) os noted

pub returns : goal.returns
returns c t ts p z other os noted = c.mend_member.ensures t ts p z (row-array z.parent _ c.kind.ensures ∙ ne_eqb _ _
    c.if-kind-eq-ARRAY.false) os noted
