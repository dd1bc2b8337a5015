use Prim.Native.Nat.{◌-◌}
use lib.ListN.{length}
use Rattle.spec.specs.Read.{blanks_from, blanks}
use Rattle.lexer.proofs.Fuel.{Runs}
use Rattle.lexer.proofs.cursor.Cursor.blanks.Given as goal

abbrev pub invariant-loop-at : goal.invariant-loop-at
invariant-loop-at l = Runs (λ fuel. blanks_from fuel l.s) l.s l.at (blanks l.s l.initial.at)

abbrev pub decreases-loop-at : goal.decreases-loop-at
decreases-loop-at l = length l.s - l.at
