use Prim.Native.Nat.{◌+◌, ◌-◌}
use mathlib.Core.Path.{◌≡◌}
use lib.ListN.{length}
use Rattle.operations.specs.Stamp.{stamped}
use Rattle.operations.proofs.stamps.stamp.Given as goal

abbrev pub invariant-loop-row : goal.invariant-loop-row
invariant-loop-row l =
    (length l.nodes ≡ length l.initial.nodes)
    × (stamped l.nodes l.row (l.start + l.count - l.row) l.origin ≡ stamped l.initial.nodes l.start l.count l.origin)
