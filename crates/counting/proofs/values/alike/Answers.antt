-- `alike` meets its contract, by the labels and then by the counts.
use Rattle.std.proofs.Common.{arith}
use Rattle.counting.proofs.CountLaws.{alike_outside, alike_outside_other, alike_labels, alike_counts}
use Rattle.counting.proofs.values.alike.Goals as goal

pub returns-then-nodes-at : goal.returns-then-nodes-at
returns-then-nodes-at c = alike_outside c.if-nodes-at.true

pub returns-then-nodes-other : goal.returns-then-nodes-other
returns-then-nodes-other c = alike_outside_other c.if-nodes-other.true

pub returns-then-not-same_label : goal.returns-then-not-same_label
returns-then-not-same_label c = alike_labels c.same_label.ensures c.if-not-same_label.true

pub returns : goal.returns
returns c =
    alike_counts c.same_label.ensures c.if-not-same_label.false (omega (arith, c.if-nodes-at.false))
    (omega (arith, c.if-nodes-other.false)) c.arity.ensures c.arity-2.ensures
