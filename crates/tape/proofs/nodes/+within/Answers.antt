-- `tape::nodes::within` meets its contract. Assumes nothing.
use native.Mathlib.Omega.{arith}
use Rattle.tape.proofs.Rows.{no_node}
use Rattle.tape.proofs.Depth.{judging_all, judging_next, within-scalar, within_flat, within_all, within-deep}
use Rattle.tape.proofs.nodes.+within.Goals as goal

pub returns-then-nodes-at : goal.returns-then-nodes-at
returns-then-nodes-at t c cell kids node = no_node node c.if-nodes-at.true

pub returns-then-kind_in-lt-ARRAY : goal.returns-then-kind_in-lt-ARRAY
returns-then-kind_in-lt-ARRAY t c = within-scalar _ (omega arith)

pub returns-then-levels-eq0 : goal.returns-then-levels-eq0
returns-then-levels-eq0 t c = within_flat _ (omega arith) c.if-levels-eq0.true

pub loop-row-init : goal.loop-row-init
loop-row-init t c = (omega arith, judging_all _ _ _)

pub returns-then-not-within : goal.returns-then-not-within
returns-then-not-within t c =
    within-deep _ (omega arith) (omega arith) _ _ c.end_of-end.ensures c.loop-row.invariant.1 (omega arith) _
    c.if-not-within.true c.within.ensures

pub loop-row-preserved : goal.loop-row-preserved
loop-row-preserved t c = (
  omega arith,
  judging_next _ _ _ _ _ _ c.end_of-end.ensures (omega arith) c.end_of-row.ensures _
      c.if-not-within.false c.within.ensures c.loop-row.invariant.1,
)

pub returns : goal.returns
returns t c = within_all _ (omega arith) (omega arith) _ _ c.end_of-end.ensures c.loop-row.invariant.1 (omega arith)
