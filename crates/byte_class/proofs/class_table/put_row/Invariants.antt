use Prim.Native.Nat.{◌+◌, ◌*◌}
use Rattle.byte_class.specs.Laying.{Filled}
use Rattle.byte_class.proofs.class_table.put_row.Given as goal

abbrev pub invariant-loop-j : goal.invariant-loop-j
invariant-loop-j l = Filled l.rows (16 * l.i + l.j) l.table
