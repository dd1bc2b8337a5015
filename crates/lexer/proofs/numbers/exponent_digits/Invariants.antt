use Prim.Native.Nat.{◌-◌, ◌≤◌}
use lib.ListN.{length}
use Rattle.spec.specs.Limits.{max_exponent}
use Rattle.spec.specs.Numbers.{exponent_digits}
use Rattle.lexer.proofs.Fuel.{Runs}
use Rattle.lexer.proofs.numbers.exponent_digits.Given as goal

abbrev pub invariant-loop-start : goal.invariant-loop-start
invariant-loop-start l =
    (l.size ≤ max_exponent) × Runs (λ fuel. exponent_digits fuel l.s l.start l.size) l.s l.at (exponent_digits (length l.s) l.s l.start 0 l.first)

abbrev pub decreases-loop-start : goal.decreases-loop-start
decreases-loop-start l = length l.s - l.at
