use Prim.Native.Nat.{◌-◌}
use lib.ListN.{length}
use Rattle.tape.specs.Lent.{table_of}
use Rattle.walk.proofs.PathLaws.{Walking}
use Rattle.walk.proofs.path.walk_from.Given as goal

abbrev pub invariant-loop-child : goal.invariant-loop-child
invariant-loop-child l = Walking (table_of l.texts l.nodes) l.start l.path l.first l.at l.row l.walked

abbrev pub decreases-loop-child : goal.decreases-loop-child
decreases-loop-child l = length l.pointer - l.at
