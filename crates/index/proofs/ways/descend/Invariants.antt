use Prim.Native.Nat.{◌-◌}
use Rattle.tape.specs.Lent.{table_of}
use Rattle.index.proofs.WayLaws.{Descending}
use Rattle.index.proofs.ways.descend.Given as goal

abbrev pub invariant-loop-last : goal.invariant-loop-last
invariant-loop-last l =
    Descending (table_of l.texts l.nodes) l.index l.base l.limit l.start l.name l.at l.last l.same l.bits

abbrev pub decreases-loop-last : goal.decreases-loop-last
decreases-loop-last l = l.limit - l.last
