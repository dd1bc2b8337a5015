-- Laws of the counts.
use Rattle.std.specs.Prelude.{Option}
use Prim.Native.Nat.{◌≤◌}
use native.Mathlib.Omega.{arith}
use mathlib.Core.Path.{◌≡◌}
use Rattle.spec.specs.Outcome.{Outcome, ok, refused}
use Rattle.spec.specs.Operation as Operation
use Rattle.shape.specs.Kinds.{kind_outcome}
use Rattle.shape.specs.declared.kinds.Kind.{Kind}
use Rattle.inspection.specs.Inspection.{total}
use Rattle.inspection.proofs.InspectionLaws.{total-one}
use Rattle.inspect.specs.Counts.{counts_in, one_for, OneIs}
use Rattle.inspect.specs.declared.counts.Counts.{Counts}

-- ---- one operation
one_small : (o : Outcome Operation.Kind) → total (one_for o) ≤ 1
unfolding one_for total
one_small (ok k) = omega (arith, total-one k)
one_small (refused number place) = omega arith

pub one_as : {kind : Option Kind} {r : Counts} → counts_in r ≡ one_for (kind_outcome kind) → OneIs kind r
one_as {kind} {r} e = record { is = e; small = rw e (one_small (kind_outcome kind)) }
