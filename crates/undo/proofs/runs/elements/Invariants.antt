use Prim.Native.Nat.{◌≤◌, ◌-◌}
use mathlib.Core.Path.{◌≡◌}
use lib.ListN.{length}
use Rattle.tape.specs.Lent.{table_of}
use Rattle.undo.proofs.RunLaws.{LoggingAny}
use Rattle.undo.proofs.runs.elements.Given as goal

abbrev pub invariant-loop-row : goal.invariant-loop-row
invariant-loop-row l =
    (l.op ≤ l.row) × (length l.nodes ≡ length l.initial.nodes) × (length l.index ≡ length l.initial.index) × (length l.work ≡ length l.initial.work)
    × LoggingAny (table_of l.texts l.initial.nodes) l.start l.end l.initial.logged l.initial.work l.nodes l.work l.row l.op l.logged

abbrev pub decreases-loop-row : goal.decreases-loop-row
decreases-loop-row l = l.end - l.row
