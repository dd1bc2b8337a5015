use Prim.Native.Nat.{◌-◌}
use lib.ListN.{length}
use Rattle.spec.specs.Numbers.{digits}
use Rattle.lexer.proofs.Fuel.{Runs}
use Rattle.lexer.proofs.numbers.digits.Given as goal

abbrev pub invariant-loop-at : goal.invariant-loop-at
invariant-loop-at l = Runs (λ fuel. digits fuel l.s l.start) l.s l.at (digits (length l.s) l.s l.start l.first)

abbrev pub decreases-loop-at : goal.decreases-loop-at
decreases-loop-at l = length l.s - l.at
