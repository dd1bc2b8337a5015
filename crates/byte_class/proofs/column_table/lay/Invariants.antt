use Rattle.byte_class.specs.Laying.{Laid}
use Rattle.byte_class.proofs.column_table.lay.Given as goal

abbrev pub invariant-loop-b : goal.invariant-loop-b
invariant-loop-b l = Laid l.low l.b l.v l.initial.table l.table
