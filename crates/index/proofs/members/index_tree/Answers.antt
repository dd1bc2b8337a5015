-- `index_tree` meets its contract: nothing is noted at first, and each row notes parents.
use native.Mathlib.Omega.{arith}
use Rattle.index.proofs.MemberLaws.{indexed_self, indexed_on, tree_indexed, tree_not_indexed}
use Rattle.index.proofs.members.index_tree.Goals as goal

pub returns-then-index-lt-SLOTS : goal.returns-then-index-lt-SLOTS
returns-then-index-lt-SLOTS c = tree_not_indexed _ _ c.empty.ensures (omega arith)

pub returns-then-top-ge-SCRATCH : goal.returns-then-top-ge-SCRATCH
returns-then-top-ge-SCRATCH c = tree_indexed _ _ c.empty.ensures (omega arith) indexed_self

pub loop-row-init : goal.loop-row-init
loop-row-init c = indexed_self

pub loop-row-preserved : goal.loop-row-preserved
loop-row-preserved c = indexed_on c.loop-row.invariant c.index_object.ensures

pub returns : goal.returns
returns c = tree_indexed _ _ c.empty.ensures (omega arith) c.loop-row.invariant
