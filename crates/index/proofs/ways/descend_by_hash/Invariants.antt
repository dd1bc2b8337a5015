use Prim.Native.Nat.{◌-◌, ◌<◌}
use Rattle.index.proofs.WayLaws.{Passing}
use Rattle.index.proofs.ways.descend_by_hash.Given as goal

abbrev pub invariant-loop-last : goal.invariant-loop-last
invariant-loop-last l = (l.last < l.limit) × Passing l.nodes l.index l.base l.limit l.start l.name l.at l.last l.left

abbrev pub decreases-loop-last : goal.decreases-loop-last
decreases-loop-last l = l.limit - l.last
