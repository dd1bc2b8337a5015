use Prim.Native.Nat.{◌-◌, ◌≤◌}
use mathlib.Core.Path.{◌≡◌}
use lib.ListN.{length}
use Rattle.writer.proofs.ValueLaws.{Laying}
use Rattle.tape.specs.Lent.{table_of}
use Rattle.writer.proofs.values.+write.Given as goal

abbrev pub decreases-write : goal.decreases-write
decreases-write l = l.levels

abbrev pub invariant-loop-row : goal.invariant-loop-row
invariant-loop-row l =
    (l.put ≤ length l.out) × (length l.out ≡ length l.initial.out)
    × Laying (table_of l.texts l.nodes) l.at l.levels l.object l.row l.end l.first l.initial.put l.initial.out l.out l.put

abbrev pub decreases-loop-row : goal.decreases-loop-row
decreases-loop-row l =
    l.end - l.row
