-- `counted` meets its contract: the counts so far and those of the operations that are left are those of all.
use native.Mathlib.Omega.{arith}
use mathlib.Core.Path.{refl}
use Rattle.inspect.proofs.StageLaws.{left_all, left_none, left_inside, left_next, none_small, more_small}
use Rattle.inspect.proofs.stages.counted.Goals as goal

pub loop-row-init : goal.loop-row-init
loop-row-init c = (none_small refl _, left_all _ _ _ refl)

pub returns-then-nodes-row : goal.returns-then-nodes-row
returns-then-nodes-row c = left_inside c.loop-row.invariant.1 (omega arith) (omega arith) _

pub loop-row-preserved : goal.loop-row-preserved
loop-row-preserved c = (
  more_small _ _ c.plus-counts.ensures c.loop-row.invariant.0 c.one-more.ensures.small (omega arith),
  left_next c.loop-row.invariant.1 (omega arith) c.kind_of.ensures c.one-more.ensures c.plus-counts.ensures _ c.end_of-row.ensures,
)

pub returns : goal.returns
returns c = left_none c.loop-row.invariant.1 (omega arith) refl
