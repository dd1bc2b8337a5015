use Prim.Native.Nat.{◌≤◌, ◌+◌, ◌-◌}
use Rattle.tape.specs.Lent.{table_of}
use Rattle.shape.proofs.PassLaws.{AllNoted}
use Rattle.shape.proofs.all_members.members_of.Given as goal

abbrev pub invariant-loop-at : goal.invariant-loop-at
invariant-loop-at l = (l.row + 1 ≤ l.at) × AllNoted (table_of l.texts l.nodes) l.end (l.row + 1) l.at l.found

abbrev pub decreases-loop-at : goal.decreases-loop-at
decreases-loop-at l = l.end - l.at
