use Prim.Native.Nat.{◌≤◌, ◌-◌}
use lib.ListN.{length}
use Rattle.tape.proofs.Depth.{Judging}
use Rattle.tape.proofs.nodes.+within.Given as goal

abbrev pub decreases-within : goal.decreases-within
decreases-within l = l.levels

abbrev pub invariant-loop-row : goal.invariant-loop-row
invariant-loop-row l = (l.row ≤ length l.nodes) × Judging l.nodes l.at l.row (l.levels - 1)

abbrev pub decreases-loop-row : goal.decreases-loop-row
decreases-loop-row l = l.end - l.row
