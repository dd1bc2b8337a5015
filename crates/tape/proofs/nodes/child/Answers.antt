-- `tape::nodes::child` meets its contract. Assumes nothing.
use native.Mathlib.Omega.{arith}
use mathlib.Core.Path.{refl}
use Rattle.tape.proofs.Rows.{child-found, child_none, child_out}
use Rattle.tape.proofs.nodes.child.Goals as goal

pub returns-then-nodes-at : goal.returns-then-nodes-at
returns-then-nodes-at c = child_out c.if-nodes-at.true

pub returns-then-row-end_of : goal.returns-then-row-end_of
returns-then-row-end_of c = let p = c.pass-count.ensures in child-found refl p.steps (grind (arith, p.all)) (omega arith) (omega arith)

pub returns-else-row-end_of : goal.returns-else-row-end_of
returns-else-row-end_of c = let p = c.pass-count.ensures in child_none refl p.steps (omega arith) p.few
