-- `shape_of` meets its contract, by the node's kind, the number of its elements, and these.
use native.Mathlib.Omega.{arith}
use mathlib.Core.Path.{sym, ◌∙◌}
use Rattle.shape.proofs.RunLaws.{patch-other, patch_long, patch-elements}
use Rattle.shape.proofs.patch.shape_of.Goals as goal

pub returns-then-kind-ne-ARRAY : goal.returns-then-kind-ne-ARRAY
returns-then-kind-ne-ARRAY c = patch-other (λ e. c.if-kind-ne-ARRAY.true (c.kind.ensures ∙ e))

pub returns-then-arity-gt-MAX_OPERATIONS : goal.returns-then-arity-gt-MAX_OPERATIONS
returns-then-arity-gt-MAX_OPERATIONS c = patch_long (sym c.kind.ensures ∙ c.if-kind-ne-ARRAY.false) c.arity.ensures (omega arith)

pub returns : goal.returns
returns c =
    patch-elements (sym c.kind.ensures ∙ c.if-kind-ne-ARRAY.false) c.arity.ensures (omega arith) c.end_of-end.ensures c.elements.ensures
