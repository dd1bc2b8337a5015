use Prim.Native.Nat.{◌-◌}
use lib.ListN.{length}
use Rattle.fragment.proofs.WritingLaws.{Putting}
use Rattle.fragment.proofs.writing.put_octets.Given as goal

abbrev pub invariant-loop-at : goal.invariant-loop-at
invariant-loop-at l = Putting l.s l.start l.initial.out l.out l.end l.at

abbrev pub decreases-loop-at : goal.decreases-loop-at
decreases-loop-at l = length l.s - l.at
