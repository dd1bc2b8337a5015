-- `equal` meets its contract, by the levels, which fall. In its loop, whether the two values are equal is whether what is left of them agrees.
use native.Mathlib.Omega.{arith}
use Rattle.equality.proofs.EqualLaws.{equal_outside, equal_outside_other, equal_labels, equal-scalar, equal_flat}
use Rattle.equality.proofs.EqualLaws.{comparing_all, comparing_next, equal_end, equal_more, equal_alone, equal_differs}
use Rattle.equality.proofs.+equal.Goals as goal

-- the levels fall

pub returns-then-nodes-at : goal.returns-then-nodes-at
returns-then-nodes-at t c hints = equal_outside _ _ c.if-nodes-at.true

pub returns-then-nodes-other : goal.returns-then-nodes-other
returns-then-nodes-other t c hints = equal_outside_other _ _ c.if-nodes-other.true

pub returns-then-not-same_label : goal.returns-then-not-same_label
returns-then-not-same_label t c hints = equal_labels _ _ c.same_label.ensures c.if-not-same_label.true

pub returns-then-kind-lt-ARRAY : goal.returns-then-kind-lt-ARRAY
returns-then-kind-lt-ARRAY t c hints = equal-scalar _ _ c.same_label.ensures c.if-not-same_label.false _
    c.kind_in-kind.ensures c.if-kind-lt-ARRAY.true

pub returns-then-levels-eq0 : goal.returns-then-levels-eq0
returns-then-levels-eq0 t c hints = equal_flat _ _ c.same_label.ensures c.if-not-same_label.false _
    c.kind_in-kind.ensures c.if-kind-lt-ARRAY.false _ c.if-levels-eq0.true

pub loop-row-init : goal.loop-row-init
loop-row-init t c hints = comparing_all _ _ c.same_label.ensures
    c.if-not-same_label.false _ c.kind_in-kind.ensures
    c.if-kind-lt-ARRAY.false
    _ _ c.end_of-end.ensures c.end_of.ensures

pub returns-then-pair-next : goal.returns-then-pair-next
returns-then-pair-next t c hints = equal_more _ _ _ _ _ _ (c.loop-row.invariant hints) (omega arith) c.if-pair-next.true

pub returns-in_default : goal.returns-in_default
returns-in_default t c hints = equal_alone _ _ _ _ _ _ (c.loop-row.invariant hints) (omega arith) (omega arith)
    c.end_of.ensures
    _ (c.partner.ensures hints) c.in_default.is

pub returns-then-not-equal : goal.returns-then-not-equal
returns-then-not-equal t c hints = equal_differs _ _ _ _ _ _ (c.loop-row.invariant hints) (omega arith) (omega arith)
    c.end_of.ensures
    _ (c.partner.ensures hints) _ c.in-Some.is _ (c.equal.ensures hints)
    c.if-not-equal.true

pub loop-row-preserved : goal.loop-row-preserved
loop-row-preserved t c hints = comparing_next _ _ _ _ _ _ (c.loop-row.invariant hints) (omega arith)
    (omega arith) c.end_of.ensures
    _ (c.partner.ensures hints) _ c.in-Some.is _
    (c.equal.ensures hints) c.if-not-equal.false
    _ _ c.end_of-row.ensures c.end_of-next.ensures

pub returns : goal.returns
returns t c hints = equal_end _ _ _ _ _ _ (c.loop-row.invariant hints) (omega arith)
