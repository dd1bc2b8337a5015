-- A number ends in one place: its bytes are bytes that stand in numbers, and what follows it is no such byte.
use Prim.Native.Nat.{ℕ, ◌-◌}
use mathlib.Core.Path.{◌≡◌, refl, ap, sym, ◌∙◌}
use mathlib.Core.Bool.{true, true≢false}
use mathlib.Core.List.{[], ◌∷◌, ◌++◌}
use native.Mathlib.Omega.{arith}
use lib.ListN.{take, drop}
use Rattle.spec.specs.Bytes.{Bytes, byte, within}
use Rattle.spec.specs.Numbers.{is_digit, is_e}
use Rattle.grammar.specs.Grammar.{optional, DIGIT, *DIGIT, 1*DIGIT, minus, int, frac, e, sign, exp, number}
use Rattle.grammar.proofs.Places.{From, first, bytes}
use Rattle.grammar.proofs.Tests.{in_range}
use Rattle.grammar.proofs.NumbersComplete.{in_number, Stops}

data Inside : Bytes → Type 0 where
  none : Inside []
  more : {b : ℕ} {w : Bytes} → in_number b ≡ true → Inside w → Inside (b ∷ w)

join : {w w' : Bytes} → Inside w → Inside w' → Inside (w ++ w')
join none i = i
join (more h r) i = more h (join r i)

digit-inside : {b : ℕ} → DIGIT b → in_number b ≡ true
unfolding in_number is_digit
digit-inside {b} d = rw (in_range 0x30 0x39 b d.0 d.1)

digits-inside : {w : Bytes} → *DIGIT w → Inside w
digits-inside *DIGIT.none = none
digits-inside (*DIGIT.more d ds) = more (digit-inside d) (digits-inside ds)

some_inside : {w : Bytes} → 1*DIGIT w → Inside w
some_inside (1*DIGIT.some d ds) = more (digit-inside d) (digits-inside ds)

int-inside : {w : Bytes} → int w → Inside w
unfolding in_number is_digit within
int-inside int.zero = more refl none
int-inside (int.nonzero {d = b} d ds) = more (digit-inside {b = b} (omega arith)) (digits-inside ds)

frac-inside : {w : Bytes} → optional frac w → Inside w
unfolding in_number is_digit is_e within
frac-inside optional.absent = none
frac-inside (optional.present (frac.decimal_point d)) = more refl (some_inside d)

sign-inside : {w : Bytes} → optional sign w → Inside w
unfolding in_number is_digit is_e within
sign-inside optional.absent = none
sign-inside (optional.present sign.minus-sign) = more refl none
sign-inside (optional.present sign.plus-sign) = more refl none

exp-inside : {w : Bytes} → optional exp w → Inside w
unfolding in_number is_digit is_e within
exp-inside optional.absent = none
exp-inside (optional.present (exp.exponent e.lower_case p d)) = more refl (join (sign-inside p) (some_inside d))
exp-inside (optional.present (exp.exponent e.upper_case p d)) = more refl (join (sign-inside p) (some_inside d))

minus-inside : {w : Bytes} → optional minus w → Inside w
unfolding in_number is_digit is_e within
minus-inside optional.absent = none
minus-inside (optional.present minus.minus-sign) = more refl none

number-inside : {w : Bytes} → number w → Inside w
number-inside (number.parts m i f x) = join (minus-inside m) (join (int-inside i) (join (frac-inside f) (exp-inside x)))

-- such a run ends where it cannot continue
runs_end : {s w w' : Bytes} {at next next' : ℕ} → Inside w → Inside w' → From s at w next → From s at w' next' → Stops (byte s next) →
    Stops (byte s next') → next ≡ next'
runs_end none none f g h i = f.far ∙ sym g.far
runs_end {s} {at = at} {next = next} none (more in' r) f g h i =
    let far = f.far in
    let same : at ≡ next = omega arith in
    absurd (true≢false (sym in' ∙ ap in_number (sym (first g).0 ∙ ap (byte s) same) ∙ h.outside))
runs_end {s} {at = at} {next' = next'} (more in' r) none f g h i =
    let far = g.far in
    let same : at ≡ next' = omega arith in
    absurd (true≢false (sym in' ∙ ap in_number (sym (first f).0 ∙ ap (byte s) same) ∙ i.outside))
runs_end (more in' r) (more in'' r') f g h i = runs_end r r' (first f).1 (first g).1 h i

pub number_same : {s w w' : Bytes} {at next next' : ℕ} → number w → number w' → From s at w next → From s at w' next' → Stops (byte s next) →
    Stops (byte s next') → (w ≡ w') × (next ≡ next')
number_same {s} {at = at} d d' f g h i =
    let same = runs_end (number-inside d) (number-inside d') f g h i in
    (sym (bytes f) ∙ ap (λ n. take (n - at) (drop at s)) same ∙ bytes g, same)
