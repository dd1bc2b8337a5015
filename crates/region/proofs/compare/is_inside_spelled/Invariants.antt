use Prim.Native.Nat.{◌-◌}
use lib.ListN.{length}
use Rattle.region.proofs.BeginsLaws.{Ahead}
use Rattle.region.proofs.compare.is_inside_spelled.Given as goal

abbrev pub invariant-loop-i : goal.invariant-loop-i
invariant-loop-i l = Ahead l.region l.part l.i l.j

abbrev pub decreases-loop-i : goal.decreases-loop-i
decreases-loop-i l = length l.region - l.i
