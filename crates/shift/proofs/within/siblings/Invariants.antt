use Rattle.std.specs.Prelude.{Option}
use Prim.Native.Nat.{◌-◌}
use lib.ListN.{length}
use Rattle.tape.specs.Lent.{table_of}
use Rattle.shift.specs.declared.within.Pair.{Pair}
use Rattle.shift.specs.Shift.{Paired}
use Rattle.shift.proofs.within.siblings.Given as goal

abbrev pub invariant-loop-next : goal.invariant-loop-next
invariant-loop-next l =
    (r : Option Pair) → Paired (table_of l.texts l.nodes) l.from l.path l.i l.j l.row r → Paired (table_of l.texts l.nodes) l.from l.path l.start l.other 0 r

abbrev pub decreases-loop-next : goal.decreases-loop-next
decreases-loop-next l = length l.a - l.i
