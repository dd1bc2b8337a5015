-- The digits that are left, with the exponent's size so far, end at the same place.
use Prim.Native.Nat.{◌+◌, ◌-◌, ◌*◌}
use mathlib.Core.Path.{◌≡◌, ◌∙◌, ap}
use mathlib.Core.Bool.{true}
use native.Mathlib.Omega.{arith}
use borrow.Author.Tests.{le-leb, lt-leb}
use lib.Dec.{leb}
use Rattle.spec.specs.Limits.{max_exponent}
use Rattle.spec.specs.Bytes.{byte}
use Rattle.spec.specs.Numbers.{is_digit, exponent_digits}
use Rattle.spec.specs.Fault.{outcome_by, number_of}
use Rattle.spec.proofs.FaultLaws.{handed}
use Rattle.lexer.proofs.Tests.{told}
use Rattle.lexer.proofs.Fuel.{starts, goes_on, ends}
use Rattle.lexer.proofs.ByteLaws.{inside}
use Rattle.lexer.proofs.AnswerLaws.{to_ok, scan_refused}
use Rattle.lexer.proofs.NumberLoop.{exponent_more, exponent_stopped, exponent_large, exponent_end, exponent_none}
use Rattle.lexer.proofs.NumberLoop.{not_digit, digit_bounds, counted_next}
use Rattle.lexer.proofs.numbers.exponent_digits.Goals as goal

pub loop-start-init : goal.loop-start-init
unfolding outcome_by number_of
loop-start-init c = (omega arith, starts (λ fuel. exponent_digits fuel _ _ 0) _ _)

pub peek-b-requires : goal.peek-b-requires
unfolding outcome_by number_of
peek-b-requires c = tt

pub is_digit-requires : goal.is_digit-requires
unfolding outcome_by number_of
is_digit-requires c = tt

pub returns-then-not-is_digit : goal.returns-then-not-is_digit
unfolding outcome_by number_of
returns-then-not-is_digit c =
    ends (λ _. exponent_none _ _ _ _)
    (exponent_end _ _ _ _ (rw (← c.peek-b.ensures) (told c.is_digit.ensures c.if-not-is_digit.true)))
    c.loop-start.invariant.1

pub overflow_sub-size : goal.overflow_sub-size
unfolding outcome_by number_of
overflow_sub-size c =
    let digit_told = told c.is_digit.ensures c.if-not-is_digit.false in
    omega (arith, digit_bounds _ digit_told)

pub overflow_cast-size : goal.overflow_cast-size
unfolding outcome_by number_of
overflow_cast-size c =
    let digit_told = told c.is_digit.ensures c.if-not-is_digit.false in
    omega (arith, digit_bounds _ digit_told)

pub overflow_add-size : goal.overflow_add-size
unfolding outcome_by number_of
overflow_add-size c =
    let digit_told = told c.is_digit.ensures c.if-not-is_digit.false in
    omega (arith, digit_bounds _ digit_told)

pub returns-then-size-gt-MAX_EXPONENT : goal.returns-then-size-gt-MAX_EXPONENT
unfolding outcome_by number_of
returns-then-size-gt-MAX_EXPONENT c =
    let digit_told = told c.is_digit.ensures c.if-not-is_digit.false in
    let digit_here : is_digit (byte c.args.s.now c.loop-start.at) ≡ true = rw (← c.peek-b.ensures) digit_told in
    let inner = inside is_digit not_digit _ _ digit_here in
    rw c.at.ensures
    (ends (λ l. absurd (omega (arith, inner)))
    (exponent_large _ _ _ _ digit_here (rw (← c.peek-b.ensures) (lt-leb _ _ c.if-size-gt-MAX_EXPONENT.true)))
    c.loop-start.invariant.1)

pub returns-in_err-next : goal.returns-in_err-next
unfolding outcome_by number_of
returns-in_err-next c =
    let digit_told = told c.is_digit.ensures c.if-not-is_digit.false in
    let digit_here : is_digit (byte c.args.s.now c.loop-start.at) ≡ true = rw (← c.peek-b.ensures) digit_told in
    let inner = inside is_digit not_digit _ _ digit_here in
    let small : leb (c.loop-start.size * 10 + (byte c.args.s.now c.loop-start.at - 48)) max_exponent ≡ true =
    rw (← c.peek-b.ensures) (le-leb _ _ c.if-size-gt-MAX_EXPONENT.false) in
    let e = scan_refused _ c.counted.ensures c.in_err-next.was in
    ap (outcome_by _) (handed _ c.from_residual.ensures.1) ∙
    ends (λ l. absurd (omega (arith, inner)))
    (exponent_stopped _ _ _ _ _ _ digit_here small e)
    c.loop-start.invariant.1

pub loop-start-smaller : goal.loop-start-smaller
unfolding outcome_by number_of
loop-start-smaller c =
    let digit_told = told c.is_digit.ensures c.if-not-is_digit.false in
    let digit_here : is_digit (byte c.args.s.now c.loop-start.at) ≡ true = rw (← c.peek-b.ensures) digit_told in
    let inner = inside is_digit not_digit _ _ digit_here in
    let e = counted_next _ _ _ (to_ok _ c.counted.ensures c.in_ok-next.was) in
    omega (arith, inner)

pub loop-start-preserved : goal.loop-start-preserved
unfolding outcome_by number_of
loop-start-preserved c =
    let digit_told = told c.is_digit.ensures c.if-not-is_digit.false in
    let digit_here : is_digit (byte c.args.s.now c.loop-start.at) ≡ true = rw (← c.peek-b.ensures) digit_told in
    let inner = inside is_digit not_digit _ _ digit_here in
    let small : leb (c.loop-start.size * 10 + (byte c.args.s.now c.loop-start.at - 48)) max_exponent ≡ true =
    rw (← c.peek-b.ensures) (le-leb _ _ c.if-size-gt-MAX_EXPONENT.false) in
    let e = to_ok _ c.counted.ensures c.in_ok-next.was in (
      c.if-size-gt-MAX_EXPONENT.false,
      goes_on _ _ inner (omega (arith, counted_next _ _ _ e))
          (rw (← c.peek-b.ensures) at (exponent_more _ _ _ _ _ digit_here small e))
          c.loop-start.invariant.1,
    )
