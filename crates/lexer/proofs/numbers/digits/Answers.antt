-- The digits that are left end at the same place.
use mathlib.Core.Path.{◌≡◌, ◌∙◌, ap}
use mathlib.Core.Bool.{true}
use native.Mathlib.Omega.{arith}
use Rattle.spec.specs.Bytes.{byte}
use Rattle.spec.specs.Numbers.{is_digit, digits}
use Rattle.spec.specs.Fault.{outcome_by}
use Rattle.spec.proofs.FaultLaws.{handed}
use Rattle.lexer.proofs.Fuel.{starts, goes_on, ends}
use Rattle.lexer.proofs.ByteLaws.{inside}
use Rattle.lexer.proofs.AnswerLaws.{to_ok, scan_refused}
use Rattle.lexer.proofs.NumberLoop.{not_digit, counted_next, digits_more, digits_stopped, digits_end, digits_none}
use Rattle.lexer.proofs.numbers.digits.Goals as goal

pub loop-at-init : goal.loop-at-init
unfolding outcome_by
loop-at-init c = starts (λ fuel. digits fuel _ _) _ _

pub peek-requires : goal.peek-requires
unfolding outcome_by
peek-requires c = tt

pub is_digit-requires : goal.is_digit-requires
unfolding outcome_by
is_digit-requires c = tt

pub returns-in_err-next : goal.returns-in_err-next
unfolding outcome_by
returns-in_err-next c =
    let digit_here : is_digit (byte c.args.s.now c.loop-at.at) ≡ true = cc in
    let inner = inside is_digit not_digit _ _ digit_here in
    let e = scan_refused _ c.counted.ensures c.in_err-next.was in
    ap (outcome_by _) (handed _ c.from_residual.ensures.1) ∙
    ends (λ l. absurd (omega (arith, inner))) (digits_stopped _ _ _ _ _ digit_here e) c.loop-at.invariant

pub loop-at-smaller : goal.loop-at-smaller
unfolding outcome_by
loop-at-smaller c =
    let digit_here : is_digit (byte c.args.s.now c.loop-at.at) ≡ true = cc in
    let inner = inside is_digit not_digit _ _ digit_here in
    let e = counted_next _ _ _ (to_ok _ c.counted.ensures c.in_ok-next.was) in
    omega (arith, inner)

pub loop-at-preserved : goal.loop-at-preserved
unfolding outcome_by
loop-at-preserved c =
    let digit_here : is_digit (byte c.args.s.now c.loop-at.at) ≡ true = cc in
    let inner = inside is_digit not_digit _ _ digit_here in
    let e = to_ok _ c.counted.ensures c.in_ok-next.was in
    goes_on _ _ inner (omega (arith, counted_next _ _ _ e)) (digits_more _ _ _ _ digit_here e) c.loop-at.invariant

pub returns : goal.returns
unfolding outcome_by
returns c = ends (λ _. digits_none _ _ _) (digits_end _ _ _ (cc)) c.loop-at.invariant
