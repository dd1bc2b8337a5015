-- `index_object` meets its contract: its loop passes the children of the object one by one.
use native.Mathlib.Omega.{arith}
use mathlib.Core.Path.{refl}
use Rattle.index.proofs.MemberLaws.{indexed_self, indexing_none, indexing_next}
use Rattle.index.proofs.members.index_object.Goals as goal

pub returns-then-kind-ne-OBJECT : goal.returns-then-kind-ne-OBJECT
returns-then-kind-ne-OBJECT c = indexed_self

pub loop-row-init : goal.loop-row-init
loop-row-init c = (refl, indexing_none)

pub loop-row-preserved : goal.loop-row-preserved
loop-row-preserved c = (
  omega arith,
  indexing_next c.loop-row.invariant.1 (omega (arith, c.requires)) (omega arith) (omega arith) (omega arith) (omega (arith, c.behind.ensures))
      c.enter.ensures c.parent.ensures _ c.set_slot.ensures _
      c.behind-row.ensures.0,
)

pub returns : goal.returns
returns c = c.loop-row.invariant.1.indexed
