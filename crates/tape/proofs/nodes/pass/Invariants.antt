use Prim.Native.Nat.{◌≤◌, ◌<◌, ◌-◌, ◌+◌}
use lib.ListN.{length}
use Rattle.tape.specs.Rows.{Steps}
use Rattle.tape.proofs.nodes.pass.Given as goal

abbrev pub invariant-loop-row : goal.invariant-loop-row
invariant-loop-row l = (l.count + l.at < l.row) × (l.row ≤ length l.nodes) × (l.count ≤ l.most) × Steps l.nodes l.end (l.at + 1) l.count l.row

abbrev pub decreases-loop-row : goal.decreases-loop-row
decreases-loop-row l = l.end - l.row
