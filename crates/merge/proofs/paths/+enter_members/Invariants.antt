use Prim.Native.Nat.{◌-◌}
use mathlib.Core.Path.{◌≡◌}
use lib.ListN.{length}
use Rattle.tape.specs.Lent.{table_of}
use Rattle.tape.specs.Rows.{end_of}
use Rattle.merge.proofs.PathLaws.{Entering}
use Rattle.merge.proofs.paths.+enter_members.Given as goal

-- the levels fall
abbrev pub decreases-enter_members : goal.decreases-enter_members
decreases-enter_members l = l.levels

abbrev pub invariant-loop-row : goal.invariant-loop-row
invariant-loop-row l =
    (length l.index ≡ length l.initial.index) × Entering (table_of l.texts l.nodes) l.object (end_of l.nodes l.object) l.levels l.initial.index l.index l.row

abbrev pub decreases-loop-row : goal.decreases-loop-row
decreases-loop-row l = l.end - l.row
