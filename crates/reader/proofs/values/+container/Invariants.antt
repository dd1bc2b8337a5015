use Prim.Native.Nat.{◌-◌}
use lib.ListN.{length}
use Rattle.reader.proofs.ReadingLaws.{Filling}
use Rattle.reader.proofs.values.+container.Given as goal

abbrev pub decreases-container : goal.decreases-container
decreases-container l = l.levels

abbrev pub invariant-loop-item : goal.invariant-loop-item
invariant-loop-item l =
    Filling l.source l.s l.initial.next.at l.levels l.kind l.row (record { nodes = l.initial.nodes; index = l.initial.index })
    (record { nodes = l.nodes; index = l.index }) l.next.at l.end

abbrev pub decreases-loop-item : goal.decreases-loop-item
decreases-loop-item l = length l.s - l.next.at
