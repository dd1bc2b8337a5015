-- `tape::moves::clear` meets its contract. Assumes nothing.
use Prim.Native.Nat.{ℕ}
use native.Mathlib.Omega.{arith}
use mathlib.Core.Path.{◌≡◌, sym, ap, ◌∙◌}
use mathlib.Core.List.{List}
use lib.ListN.{set, replicate, length-take, length-drop}
use Rattle.tape.specs.Fields.{no_node}
use Rattle.tape.proofs.Columns.{filled_out}
use Rattle.tape.proofs.Loops.{front_more, front_all, part_filled}
use Rattle.tape.proofs.moves.clear.Goals as goal

pub loop-node-preserved : goal.loop-node-preserved
loop-node-preserved c = ap (λ xs. set xs c.loop-node.node-index no_node) c.loop-node.invariant ∙ front_more no_node _ c.loop-node.node-index c.loop-node-test.true

pub returns-after-loop-node : goal.returns-after-loop-node
returns-after-loop-node c =
    let all : c.loop-node.node-index ≡ c.args.count = omega (arith, c.loop-node.auto.node-index-end, length-take {A = List ℕ}, length-drop {A = List ℕ}, c.if-inside.ensures) in
    part_filled no_node c.args.nodes.now c.args.start c.args.count _ _ (omega (arith, c.if-inside.ensures)) (omega arith)
    (c.loop-node.invariant ∙ front_all no_node _ c.loop-node.node-index c.loop-node-test.false ∙ ap (λ n. replicate n no_node) all)

pub returns-else-inside : goal.returns-else-inside
returns-else-inside c = sym (filled_out c.args.nodes.now no_node c.args.start c.args.count (omega (arith, c.if-inside.ensures)))
