use Prim.Native.Nat.{◌≤◌}
use lib.ListN.{drop}
use Rattle.spec.specs.Worth.{mantissa}
use Rattle.decimal.proofs.MantissaLaws.{Seen}
use Rattle.decimal.proofs.mantissa.significant.Given as goal

abbrev pub invariant-loop-b : goal.invariant-loop-b
invariant-loop-b l = (l.seen ≤ l.b-index) × Seen (mantissa l.t) (mantissa (drop l.b-index l.t)) l.seen l.kept
