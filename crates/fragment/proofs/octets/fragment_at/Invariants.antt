use Prim.Native.Nat.{◌-◌}
use lib.ListN.{length}
use Rattle.fragment.proofs.ScanLaws.{Going}
use Rattle.fragment.proofs.octets.fragment_at.Given as goal

abbrev pub invariant-loop-at : goal.invariant-loop-at
invariant-loop-at l = Going l.s l.start l.awaited l.syntax l.n l.at

abbrev pub decreases-loop-at : goal.decreases-loop-at
decreases-loop-at l = length l.s - l.at
