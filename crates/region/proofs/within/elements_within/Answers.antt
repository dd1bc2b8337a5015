-- `elements_within` meets its contract: the answer for the elements that are left is the answer for all, and the measure is the rows that are left.
use native.Mathlib.Omega.{arith}
use Rattle.region.proofs.WithinLaws.{left_none, left_inside, left_refused, left_next}
use Rattle.region.proofs.within.elements_within.Goals as goal

pub returns-then-nodes-row : goal.returns-then-nodes-row
returns-then-nodes-row c = left_inside c.loop-row.invariant.1 (omega arith) (omega arith)

pub returns-in-Err : goal.returns-in-Err
returns-in-Err c = left_refused c.loop-row.invariant.1 (omega arith) c.element_right.ensures c.in-Err.is

pub loop-row-preserved : goal.loop-row-preserved
loop-row-preserved c =
    (omega arith, left_next c.loop-row.invariant.1 (omega arith) c.element_right.ensures c.in_default.is _ c.end_of-row.ensures)

pub returns : goal.returns
returns c = left_none c.loop-row.invariant.1 (omega arith)
