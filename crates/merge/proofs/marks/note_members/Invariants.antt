use Prim.Native.Nat.{◌-◌}
use mathlib.Core.Path.{◌≡◌}
use lib.ListN.{length}
use Rattle.tape.specs.Rows.{end_of}
use Rattle.merge.proofs.MarkLaws.{Noting}
use Rattle.merge.proofs.marks.note_members.Given as goal

abbrev pub invariant-loop-row : goal.invariant-loop-row
invariant-loop-row l = (length l.index ≡ length l.initial.index) × Noting l.nodes l.patch (end_of l.nodes l.patch) l.initial.index l.index l.row

abbrev pub decreases-loop-row : goal.decreases-loop-row
decreases-loop-row l = l.end - l.row
