-- `tape::nodes::arity` meets its contract. Assumes nothing.
use native.Mathlib.Omega.{arith}
use mathlib.Core.Path.{refl}
use Rattle.tape.proofs.Rows.{arity_counted, arity_out}
use Rattle.tape.proofs.nodes.arity.Goals as goal

pub returns-then-nodes-at : goal.returns-then-nodes-at
returns-then-nodes-at c = arity_out c.if-nodes-at.true

pub returns : goal.returns
returns c = let p = c.pass.ensures in arity_counted refl p.steps (p.all (omega arith)) (omega arith)
