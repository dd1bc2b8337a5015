use Prim.Native.Nat.{◌≤◌}
use mathlib.Core.Path.{◌≡◌}
use lib.ListN.{drop}
use Rattle.spec.specs.Worth.{decimal}
use Rattle.decimal.proofs.exponent.integer.Given as goal

abbrev pub invariant-loop-b : goal.invariant-loop-b
invariant-loop-b l = (l.n ≤ 9_999) × (decimal l.n (drop l.b-index l.t) ≡ decimal 0 l.t)
