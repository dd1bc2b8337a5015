use Prim.Native.Nat.{◌≤◌, ◌-◌}
use mathlib.Core.Path.{◌≡◌}
use lib.ListN.{length}
use Rattle.tape.specs.Lent.{table_of}
use Rattle.operations.proofs.RunLaws.{GoingAny}
use Rattle.operations.proofs.runs.elements.Given as goal

abbrev pub invariant-loop-row : goal.invariant-loop-row
invariant-loop-row l =
    (l.op ≤ l.row) × (length l.nodes ≡ length l.initial.nodes) × (length l.index ≡ length l.initial.index) × GoingAny (table_of l.texts l.initial.nodes)
    l.used l.start l.end l.nodes l.rows l.row l.op

abbrev pub decreases-loop-row : goal.decreases-loop-row
decreases-loop-row l = l.end - l.row
