use Rattle.std.proofs.Common.{◌-◌}
use Rattle.tape.specs.Lent.{table_of}
use Rattle.equality.specs.Compare.{Hints}
use Rattle.counting.proofs.CountLaws.{Counting}
use Rattle.counting.proofs.values.+counted.Given as goal

abbrev pub decreases-counted : goal.decreases-counted
decreases-counted l = l.levels

abbrev pub invariant-loop-row : goal.invariant-loop-row
invariant-loop-row l =
    Hints l.nodes l.index l.top → Counting (table_of l.texts l.nodes) l.at l.other l.levels l.pair.object l.end l.pair.end l.row l.next l.names

abbrev pub decreases-loop-row : goal.decreases-loop-row
decreases-loop-row l = l.end - l.row
