use Prim.Native.Nat.{◌-◌}
use lib.ListN.{length}
use Rattle.undo.proofs.SlashLaws.{Scan}
use Rattle.undo.proofs.cuts.last_slash.Given as goal

abbrev pub invariant-loop-code : goal.invariant-loop-code
invariant-loop-code l = Scan l.pointer l.cut.end l.cut.next l.at

abbrev pub decreases-loop-code : goal.decreases-loop-code
decreases-loop-code l = length l.pointer - l.at
