use Prim.Native.Nat.{◌≤◌, ◌-◌}
use Rattle.writer.specs.Writing.{length_limit}
use Rattle.writer.proofs.ValueLaws.{Measuring}
use Rattle.tape.specs.Lent.{table_of}
use Rattle.writer.proofs.values.+measure.Given as goal

abbrev pub decreases-measure : goal.decreases-measure
decreases-measure l = l.levels

abbrev pub invariant-loop-row : goal.invariant-loop-row
invariant-loop-row l =
    (l.total ≤ length_limit) × Measuring (table_of l.texts l.nodes) l.at l.levels l.object l.row l.end l.first l.total

abbrev pub decreases-loop-row : goal.decreases-loop-row
decreases-loop-row l =
    l.end - l.row
