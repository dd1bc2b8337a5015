use Prim.Native.Nat.{◌-◌}
use Rattle.tape.specs.Lent.{table_of}
use Rattle.equality.specs.Compare.{Hints}
use Rattle.equality.proofs.EqualLaws.{Comparing}
use Rattle.equality.proofs.+equal.Given as goal

abbrev pub decreases-equal : goal.decreases-equal
decreases-equal l = l.levels

abbrev pub invariant-loop-row : goal.invariant-loop-row
invariant-loop-row l =
    Hints l.nodes l.index l.top → Comparing (table_of l.texts l.nodes) l.at l.other l.levels l.pair.object l.end l.pair.end l.row l.next

abbrev pub decreases-loop-row : goal.decreases-loop-row
decreases-loop-row l = l.end - l.row
