-- `decimal::same_digits` meets its contract: the digits left to compare come to what all come to. Assumes nothing.
use mathlib.Core.Path.{refl}
use native.Mathlib.Omega.{arith}
use Rattle.decimal.proofs.MantissaLaws.{told, compared, inside, inside-other, passing, passing_other, differing, agreeing}
use Rattle.decimal.proofs.same_digits.Goals as goal

pub loop-left-init : goal.loop-left-init
loop-left-init c = record { enough = c.requires.0; enough-other = c.requires.1; comes = refl }

pub bounds-a-i : goal.bounds-a-i
bounds-a-i c = inside c.loop-left.invariant c.loop-left-test.true

pub bounds-b-j : goal.bounds-b-j
bounds-b-j c = inside-other c.loop-left.invariant c.loop-left-test.true

pub overflow_add-i : goal.overflow_add-i
overflow_add-i c =
    omega (arith, inside c.loop-left.invariant c.loop-left-test.true)

pub loop-left-smaller-then-not-is_digit : goal.loop-left-smaller-then-not-is_digit
loop-left-smaller-then-not-is_digit c =
    omega (arith, inside c.loop-left.invariant c.loop-left-test.true)

pub loop-left-preserved-then-not-is_digit : goal.loop-left-preserved-then-not-is_digit
loop-left-preserved-then-not-is_digit c =
    passing c.loop-left.invariant c.loop-left-test.true (told c.is_digit.ensures c.if-not-is_digit.true)

pub overflow_add-j : goal.overflow_add-j
overflow_add-j c =
    omega (arith, inside-other c.loop-left.invariant c.loop-left-test.true)

pub loop-left-smaller-then-not-is_digit-2 : goal.loop-left-smaller-then-not-is_digit-2
loop-left-smaller-then-not-is_digit-2 c =
    omega (arith, inside-other c.loop-left.invariant c.loop-left-test.true)

pub loop-left-preserved-then-not-is_digit-2 : goal.loop-left-preserved-then-not-is_digit-2
loop-left-preserved-then-not-is_digit-2 c =
    passing_other c.loop-left.invariant c.loop-left-test.true (told c.is_digit-in-loop-left.ensures c.if-not-is_digit-2.true)

pub returns-then-x-y : goal.returns-then-x-y
returns-then-x-y c =
    differing c.loop-left.invariant c.loop-left-test.true
    (told c.is_digit.ensures c.if-not-is_digit.false)
    (told c.is_digit-in-loop-left.ensures c.if-not-is_digit-2.false)
    c.if-x-y.true

pub overflow_add-i-in-loop-left : goal.overflow_add-i-in-loop-left
overflow_add-i-in-loop-left c =
    omega (arith, inside c.loop-left.invariant c.loop-left-test.true)

pub overflow_add-j-in-loop-left : goal.overflow_add-j-in-loop-left
overflow_add-j-in-loop-left c =
    omega (arith, inside-other c.loop-left.invariant c.loop-left-test.true)

pub loop-left-smaller : goal.loop-left-smaller
loop-left-smaller c =
    omega (arith, inside c.loop-left.invariant c.loop-left-test.true, inside-other c.loop-left.invariant c.loop-left-test.true)

pub loop-left-preserved : goal.loop-left-preserved
loop-left-preserved c =
    agreeing c.loop-left.invariant c.loop-left-test.true
    (told c.is_digit.ensures c.if-not-is_digit.false)
    (told c.is_digit-in-loop-left.ensures c.if-not-is_digit-2.false)
    c.if-x-y.false

pub returns : goal.returns
returns c = compared c.loop-left.invariant (omega arith)
