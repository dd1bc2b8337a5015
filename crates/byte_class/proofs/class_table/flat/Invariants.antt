use Prim.Native.Nat.{◌*◌}
use Rattle.byte_class.specs.Laying.{Filled}
use Rattle.byte_class.proofs.class_table.flat.Given as goal

abbrev pub invariant-loop-i : goal.invariant-loop-i
invariant-loop-i l = Filled l.rows (16 * l.i) l.table
