-- `tape::nodes::pass` meets its contract. Assumes nothing.
use native.Mathlib.Omega.{arith}
use Rattle.tape.specs.Rows.{block, steps_none}
use Rattle.tape.proofs.Rows.{steps_leaves, steps_on}
use Rattle.tape.proofs.nodes.pass.Goals as goal

pub loop-row-init : goal.loop-row-init
loop-row-init c = (omega arith, omega arith, omega arith, steps_none)

pub loop-row-preserved-then-leaves : goal.loop-row-preserved-then-leaves
loop-row-preserved-then-leaves c = let l = c.leaves.ensures c.if-leaves.true in
    (omega arith, omega arith, omega arith, steps_leaves block l.0 (omega arith) l.2 c.loop-row.invariant.3)

pub loop-row-preserved : goal.loop-row-preserved
loop-row-preserved c = (omega arith, omega arith, omega arith, steps_on _ c.end_of-row.ensures (omega arith) c.loop-row.invariant.3)
