-- `shape_within` meets its contract, by the node's kind, the number of its elements, and these.
use native.Mathlib.Omega.{arith}
use mathlib.Core.Path.{sym, ◌∙◌}
use Rattle.region.proofs.WithinLaws.{within-other, within_long, within_empty, within-elements}
use Rattle.region.proofs.within.shape_within.Goals as goal

pub returns-then-kind-ne-ARRAY : goal.returns-then-kind-ne-ARRAY
returns-then-kind-ne-ARRAY c = within-other _ (λ e. c.if-kind-ne-ARRAY.true (c.kind.ensures ∙ e))

pub returns-then-count-gt-MAX_OPERATIONS : goal.returns-then-count-gt-MAX_OPERATIONS
returns-then-count-gt-MAX_OPERATIONS c = within_long _ (sym c.kind.ensures ∙ c.if-kind-ne-ARRAY.false) c.arity-count.ensures (omega arith)

pub returns-then-count-eq0 : goal.returns-then-count-eq0
returns-then-count-eq0 c =
    within_empty _ (sym c.kind.ensures ∙ c.if-kind-ne-ARRAY.false) c.arity-count.ensures (omega arith) (omega arith)

pub returns : goal.returns
returns c =
    within-elements _ (sym c.kind.ensures ∙ c.if-kind-ne-ARRAY.false) c.arity-count.ensures (omega arith)
    c.if-count-eq0.false c.end_of-end.ensures c.new.ensures c.elements_within.ensures
