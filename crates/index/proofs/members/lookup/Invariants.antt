use Prim.Native.Nat.{◌-◌}
use Rattle.index.specs.Slots.{room}
use Rattle.index.proofs.members.lookup.Given as goal

abbrev pub invariant-loop-last : goal.invariant-loop-last
invariant-loop-last l = Unit {0}

abbrev pub decreases-loop-last : goal.decreases-loop-last
decreases-loop-last l = room - l.last
