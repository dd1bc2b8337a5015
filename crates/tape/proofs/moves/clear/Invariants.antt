use mathlib.Core.Path.{◌≡◌}
use mathlib.Core.List.{◌++◌}
use lib.ListN.{drop, replicate}
use Rattle.tape.specs.Fields.{no_node}
use Rattle.tape.proofs.moves.clear.Given as goal

abbrev pub invariant-loop-node : goal.invariant-loop-node
invariant-loop-node l = l.node-items ≡ replicate l.node-index no_node ++ drop l.node-index l.initial.node-items
