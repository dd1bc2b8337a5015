use Prim.Native.Nat.{◌≤◌, ◌-◌}
use Rattle.tape.specs.Lent.{both}
use Rattle.table.specs.Find.{is_named}
use Rattle.table.proofs.Search.{Passed}
use Rattle.table.proofs.find.find_ascii.Given as goal

abbrev pub invariant-loop-row : goal.invariant-loop-row
invariant-loop-row l = (l.start ≤ l.row) × Passed l.nodes l.stop (λ n. is_named (both l.texts) n l.h l.name) l.start l.row

abbrev pub decreases-loop-row : goal.decreases-loop-row
decreases-loop-row l = l.stop - l.row
