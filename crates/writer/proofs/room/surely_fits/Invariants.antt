use Prim.Native.Nat.{◌+◌}
use Rattle.writer.proofs.RoomLaws.{Summed}
use Rattle.writer.proofs.room.surely_fits.Given as goal

abbrev pub invariant-loop-node : goal.invariant-loop-node
invariant-loop-node l = Summed l.nodes l.at (l.at + l.node-index) l.total
