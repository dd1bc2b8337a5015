-- `surely_fits` meets its contract: it counts the bytes of every row of the node, and the text has no more.
use Prim.Native.Nat.{◌-◌}
use native.Mathlib.Nat.{add-zero, add_assoc}
use native.Mathlib.Omega.{arith}
use mathlib.Core.Path.{ap, ◌∙◌}
use lib.ListN.{drop, length-take, length-drop}
use Rattle.writer.specs.Writing.{row_bytes}
use Rattle.writer.proofs.RoomLaws.{summed_none, summed_next, row_within, sure_out, sure_summed}
use Rattle.writer.proofs.room.surely_fits.Goals as goal

pub returns-then-nodes-at : goal.returns-then-nodes-at
returns-then-nodes-at c = sure_out (omega arith)

pub loop-node-init : goal.loop-node-init
loop-node-init c = rw (add-zero c.args.at) summed_none

pub overflow_add-total : goal.overflow_add-total
overflow_add-total c =
    omega (
      arith,
      c.loop-node.invariant.small,
      c.row_bytes-total.ensures.1,
      c.loop-node-test.true,
      length-take (c.min-end.result - c.args.at) (drop c.args.at c.args.nodes.now),
      c.min-end.ensures,
      c.wide.ensures.1,
    )

pub loop-node-preserved : goal.loop-node-preserved
loop-node-preserved c =
    let here = row_within _ _ _ _ c.loop-node-test.true in
    let next = summed_next c.loop-node.invariant (c.row_bytes-total.ensures.0 ∙ ap row_bytes here) c.row_bytes-total.ensures.1 in
    rw (← add_assoc c.args.at c.loop-node.node-index 1) next

pub returns : goal.returns
returns c =
    let most = length-take (c.min-end.result - c.args.at) (drop c.args.at c.args.nodes.now) in
    let left = length-drop c.args.at c.args.nodes.now in
    let counted = c.loop-node.auto.node-index-end in
    sure_summed c.loop-node.invariant c.min-end.ensures c.wide.ensures.0 c.wide.ensures.1 (omega arith) (omega arith)
