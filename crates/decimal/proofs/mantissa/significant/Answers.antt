-- `significant` meets its contract: the digits seen so far, and how many of them have no zero after them.
use native.Mathlib.Omega.{arith}
use mathlib.Core.Path.{sym}
use Rattle.decimal.proofs.MantissaLaws.{mantissa_ends, mantissa-digit, mantissa-other, mantissa_past, seen_none, seen_zero, seen_digit, seen_all}
use Rattle.decimal.proofs.mantissa.significant.Goals.{then-b-ne48, else-b-ne48}
use Rattle.decimal.proofs.mantissa.significant.Goals as goal

pub loop-b-init : goal.loop-b-init
loop-b-init c = (omega arith, seen_none _)

pub loop-b-preserved-then-not-is_digit : goal.loop-b-preserved-then-not-is_digit
loop-b-preserved-then-not-is_digit c =
    (omega arith, rw (mantissa-other _ _ c.loop-b-test.true (sym c.if-is_e.ensures) (sym c.if-not-is_digit.ensures)) at c.loop-b.invariant.1)

pub loop-b-preserved : goal.loop-b-preserved
loop-b-preserved c =
    let seen = rw (mantissa-digit _ _ c.loop-b-test.true (sym c.if-is_e.ensures) (sym c.if-not-is_digit.ensures)) at c.loop-b.invariant.1 in (
      omega arith,
      elim c.if-b-ne48.branch [
        | then-b-ne48 w ↦ rw w.kept-is (seen_digit seen w.if-b-ne48.true)
        | else-b-ne48 w ↦ rw w.kept-is (seen_zero seen w.if-b-ne48.false)
      ],
    )

pub returns-after-loop-b : goal.returns-after-loop-b
returns-after-loop-b c = seen_all (rw (mantissa_past _ _ c.loop-b-test.false) at c.loop-b.invariant.1)

pub returns-then-is_e : goal.returns-then-is_e
returns-then-is_e c = seen_all (rw (mantissa_ends _ _ c.loop-b-test.true (sym c.if-is_e.ensures)) at c.loop-b.invariant.1)
