use Prim.Native.Nat.{◌≤◌, ◌-◌}
use Rattle.tape.specs.Lent.{table_of}
use Rattle.region.proofs.WithinLaws.{LeftAny}
use Rattle.region.proofs.within.elements_within.Given as goal

abbrev pub invariant-loop-row : goal.invariant-loop-row
invariant-loop-row l = (l.op ≤ l.row) × LeftAny (table_of l.texts l.nodes) l.start l.end l.region.text.now l.row l.op

abbrev pub decreases-loop-row : goal.decreases-loop-row
decreases-loop-row l = l.end - l.row
