use Prim.Native.Nat.{◌+◌, ◌-◌}
use lib.ListN.{length, take, drop}
use Rattle.spec.specs.Worth.{mantissa}
use Rattle.spec.specs.Value.{same_text}
use Rattle.decimal.proofs.MantissaLaws.{Comparing}
use Rattle.decimal.proofs.same_digits.Given as goal

abbrev pub invariant-loop-left : goal.invariant-loop-left
invariant-loop-left l =
    Comparing l.a l.i l.b l.j l.left (same_text (take l.count (mantissa (drop l.first l.a))) (take l.count (mantissa (drop l.other l.b))))

abbrev pub decreases-loop-left : goal.decreases-loop-left
decreases-loop-left l = (length l.a - l.i) + (length l.b - l.j)
