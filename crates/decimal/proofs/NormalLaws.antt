-- The normal form says what a number is worth, and two normal forms say whether the numbers are equal.
use Rattle.std.specs.Prelude.{Some, None, if◌then◌else◌}
use Prim.Native.Nat.{ℕ, suc, ◌+◌, ◌-◌, ◌≤◌, ◌<◌, min}
use Prim.Native.Char.{code}
use mathlib.Core.Path.{◌≡◌, refl, sym, ◌∙◌, ap}
use mathlib.Core.List.{[], ◌∷◌, reverse, reverse-cons, reverse-reverse}
use mathlib.Core.Bool.{Bool, true, false, not, beq, ◌&&◌, and-true, and-false, true≢false}
use native.Mathlib.Omega.{arith}
use native.Mathlib.Nat.{min-le_left, min-eq_left, min-eq_right}
use native.Mathlib.Decide.{dec_lt}
use borrow.Author.Tests.{eq-eqb, ne_eqb, le-leb, lt-leb}
use lib.ListN.{length, take, drop, length-reverse}
use lib.Seq.{take-append-le, take_all}
use lib.Dec.{eqb, leb, ltb, eqb-suc-zero}
use lib.IntN.{ℤ, pos, neg_ℤ, nat_abs, ◌+ℤ◌, ◌-ℤ◌}
use Rattle.spec.specs.Limits.{max_number, max_exponent}
use Rattle.spec.specs.Bytes.{Bytes, within}
use Rattle.spec.specs.Numbers.{is_digit, is_e}
use Rattle.spec.specs.Worth.{mantissa, fraction_digits, exponent, signed_exponent, drop_zeros, trimmed, is_negative, unless_zero, worth}
use Rattle.spec.specs.Value.{same_text}
use Rattle.spec.specs.Equality.{same_bool, same_integer, same_worth}
use Rattle.decimal.specs.declared.Normal.{Normal}
use Rattle.decimal.specs.Normal.{is_nonzero_digit, first_digit, within_limits, normal_form, normalized, same_number}
use Rattle.decimal.proofs.MantissaLaws.{within_bounds}
use Rattle.decimal.proofs.ExponentLaws.{signed_size}

-- ---- where the significant digits begin

nonzero_digit : (b : ℕ) → is_nonzero_digit b ≡ true → (is_digit b ≡ true) × (b ≡ code "0" → ⊥)
unfolding is_nonzero_digit is_digit within
nonzero_digit b d =
    let h = within_bounds (code "1") (code "9") b d in (rw (le-leb (code "0") b (omega arith), le-leb b (code "9") h.1), λ e. omega arith)

digit_nonzero : (b : ℕ) → is_digit b ≡ true → code "0" < b → is_nonzero_digit b ≡ true
unfolding is_nonzero_digit is_digit within
digit_nonzero b d l =
    let h = within_bounds (code "0") (code "9") b d in rw (le-leb (code "1") b (omega arith), le-leb b (code "9") h.1)

digit_zero : (b : ℕ) → is_digit b ≡ true → is_nonzero_digit b ≡ false → b ≡ code "0"
unfolding is_digit
digit_zero b d z = go (dec_lt (code "0") b)
  where
    go : Dec (code "0" < b) → b ≡ code "0"
    go (yes l) = absurd (true≢false (sym (digit_nonzero b d l) ∙ z))
    go (no l) = omega (arith, within_bounds (code "0") (code "9") b d)

pub first-digits : (t : Bytes) → mantissa (drop (first_digit t) t) ≡ drop_zeros (mantissa t)
unfolding first_digit mantissa drop_zeros
first-digits [] = refl
first-digits (b ∷ t) = go (is_e b) (is_nonzero_digit b) (is_digit b) refl refl refl (first-digits t)
  where
    go : (e n d : Bool) → is_e b ≡ e → is_nonzero_digit b ≡ n → is_digit b ≡ d → mantissa (drop (first_digit t) t) ≡ drop_zeros (mantissa t) →
        mantissa (drop (first_digit (b ∷ t)) (b ∷ t)) ≡ drop_zeros (mantissa (b ∷ t))
    go true n d e f g ih = simp e
    go false true d e f g ih = let h = nonzero_digit b f in simp (e, f, h.0, ne_eqb b (code "0") h.1)
    go false false true e f g ih = simp (e, f, g, eq-eqb b (code "0") (digit_zero b g f)) ih
    go false false false e f g ih = simp (e, f, g) ih

-- ---- digits without the zeros at their end are the first of them

zeros_shorter : (t : Bytes) → length (drop_zeros t) ≤ length t
unfolding drop_zeros
zeros_shorter [] = omega arith
zeros_shorter (b ∷ t) = go (eqb b (code "0")) (zeros_shorter t)
  where
    go : (z : Bool) → length (drop_zeros t) ≤ length t → length (if z then drop_zeros t else b ∷ t) ≤ suc (length t)
    go true ih = omega arith
    go false ih = omega arith

zeros_prefix : (t : Bytes) → take (length (drop_zeros t)) (reverse t) ≡ reverse (drop_zeros t)
unfolding drop_zeros
zeros_prefix [] = refl
zeros_prefix (b ∷ t) = go (eqb b (code "0")) (zeros_prefix t)
  where
    go : (z : Bool) → take (length (drop_zeros t)) (reverse t) ≡ reverse (drop_zeros t) →
        take (length (if z then drop_zeros t else b ∷ t)) (reverse (b ∷ t)) ≡ reverse (if z then drop_zeros t else b ∷ t)
    go true ih =
        let h : length (drop_zeros t) ≤ length (reverse t) = omega (arith, zeros_shorter t, length-reverse t) in
        rw (reverse-cons b t) (take-append-le (length (drop_zeros t)) (reverse t) (b ∷ []) h ∙ ih)
    go false ih = take_all (suc (length t)) (reverse (b ∷ t)) (omega (arith, length-reverse (b ∷ t)))

pub trimmed_prefix : (t : Bytes) → take (length (trimmed t)) t ≡ trimmed t
unfolding trimmed
trimmed_prefix t =
    rw (length-reverse (drop_zeros (reverse t))) (ap (take (length (drop_zeros (reverse t)))) (sym (reverse-reverse t)) ∙ zeros_prefix (reverse t))

pub trimmed_shorter : (t : Bytes) → length (trimmed t) ≤ length t
unfolding trimmed
trimmed_shorter t = omega (arith, length-reverse (drop_zeros (reverse t)), zeros_shorter (reverse t), length-reverse t)

-- ---- no count passes the text's length

pub mantissa_shorter : (t : Bytes) → length (mantissa t) ≤ length t
unfolding mantissa
mantissa_shorter [] = omega arith
mantissa_shorter (b ∷ t) = go (is_e b) (is_digit b) (mantissa_shorter t)
  where
    go : (e d : Bool) → length (mantissa t) ≤ length t → length (if e then [] else if d then b ∷ mantissa t else mantissa t) ≤ suc (length t)
    go true d ih = omega arith
    go false true ih = omega arith
    go false false ih = omega arith

pub fraction_shorter : (t : Bytes) → fraction_digits t ≤ length t
unfolding fraction_digits
fraction_shorter [] = omega arith
fraction_shorter (b ∷ t) = go (eqb b (code ".")) (is_e b) (fraction_shorter t)
  where
    go : (p e : Bool) → fraction_digits t ≤ length t → (if p then length (mantissa t) else if e then 0 else fraction_digits t) ≤ suc (length t)
    go true e ih = omega (arith, mantissa_shorter t)
    go false true ih = omega arith
    go false false ih = omega arith

-- ---- the normal form says what the text is worth

pub normal_digits : (t : Bytes) → take (normal_form t).count (mantissa (drop (normal_form t).first t)) ≡ (worth t).significand
unfolding normal_form worth
normal_digits t = rw (first-digits t) (trimmed_prefix (drop_zeros (mantissa t)))

pub normal_enough : (t : Bytes) → (normal_form t).count ≤ length (mantissa (drop (normal_form t).first t))
unfolding normal_form worth
normal_enough t = rw (first-digits t) (trimmed_shorter (drop_zeros (mantissa t)))

unless_zero-count : (s : Bytes) (e : ℤ) → unless_zero s e ≡ (if eqb (length s) 0 then pos 0 else e)
unfolding unless_zero
unless_zero-count [] e = refl
unless_zero-count (b ∷ s) e = rw (eqb-suc-zero (length s))

-- What the code counts, put together. A count is of the mantissa from the first significant digit on.
module _ (t : Bytes) (n : Normal) (e : ℤ) (fraction all : ℕ) where
  pub normal_is : n.negative ≡ (is_negative t && ltb 0 n.count) → n.first ≡ first_digit t → n.count ≡ length (trimmed (mantissa (drop n.first t))) →
      e ≡ exponent t → fraction ≡ fraction_digits t → all ≡ length (mantissa (drop n.first t)) →
      n.power ≡ (if eqb n.count 0 then pos 0 else ((e -ℤ pos fraction) +ℤ pos (all - n.count))) → n ≡ normal_form t
  unfolding normal_form worth
  normal_is negative_is is-first is-count is_e_lem is-fraction is_all is-power =
      let digits : mantissa (drop n.first t) ≡ drop_zeros (mantissa t) = rw is-first (first-digits t) in
      let kept : n.count ≡ length (trimmed (drop_zeros (mantissa t))) = rw digits at is-count in
      let sign : n.negative ≡ (worth t).negative = negative_is ∙ rw kept in
      let shift : n.power ≡ (worth t).power = is-power ∙ rw (unless_zero-count, kept, is_e_lem, is-fraction, is_all, digits) in
      λ i. record { negative = sign i; first = is-first i; count = kept i; power = shift i }

-- ---- the limits

pub over_length : (t : Bytes) → max_number < length t → None ≡ normalized t
unfolding normalized within_limits
over_length t h = rw (lt-leb (length t) max_number h)

-- The code finds the exponent as it is written, and its size, capped at one past the limit.
module _ (t written : Bytes) (size : ℕ)
    (found : signed_exponent written ≡ exponent t) (capped : size ≡ min (nat_abs (signed_exponent written)) (max_exponent + 1)) where
  pub over_exponent : max_exponent < size → None ≡ normalized t
  unfolding normalized within_limits
  over_exponent h =
      let n = nat_abs (signed_exponent written) in
      let large : max_exponent < n = omega (arith, min-le_left n (max_exponent + 1)) in
      rw (← found, lt-leb n max_exponent large, and-false (leb (length t) max_number))

  module _ (h : size ≤ max_exponent) where
    size_is : size ≡ nat_abs (signed_exponent written)
    size_is = go (nat_abs (signed_exponent written)) capped (dec_lt max_exponent (nat_abs (signed_exponent written)))
      where
        go : (n : ℕ) → size ≡ min n (max_exponent + 1) → Dec (max_exponent < n) → size ≡ n
        go n e (yes l) = let z : min n (max_exponent + 1) ≡ max_exponent + 1 = min-eq_right (omega arith) in absurd (omega arith)
        go n e (no l) = e ∙ min-eq_left (omega arith)

    pub exponent_small : nat_abs (exponent t) ≤ max_exponent
    exponent_small = rw (← found, ← size_is) h

    pub exponent_is : (minus : Bool) (e : ℤ) → minus ≡ is_negative written → e ≡ (if minus then neg_ℤ (pos size) else pos size) → e ≡ exponent t
    exponent_is minus e m is = is ∙ rw (m, size_is) (signed_size written ∙ found)

pub within_limits_lem : (t : Bytes) (n : Normal) → length t ≤ max_number → nat_abs (exponent t) ≤ max_exponent → n ≡ normal_form t → Some n ≡ normalized t
unfolding normalized within_limits
within_limits_lem t n l e h = rw (le-leb (length t) max_number l, le-leb (nat_abs (exponent t)) max_exponent e) (ap Some h)

-- ---- two normal forms

pub same_length : (s t : Bytes) → (length s ≡ length t → ⊥) → same_text s t ≡ false
unfolding same_text
same_length [] [] h = absurd (h refl)
same_length [] (b ∷ t) h = refl
same_length (a ∷ s) [] h = refl
same_length (a ∷ s) (b ∷ t) h = rw (same_length s t (λ e. h (ap suc e))) (and-false (eqb a b))

-- what the code's `!=` tells of two signs
pub signs_differ : (a b : Bool) → not (beq a b) ≡ true → same_bool a b ≡ false
unfolding same_bool
signs_differ true true h = absurd (true≢false (sym h))
signs_differ true false h = refl
signs_differ false true h = refl
signs_differ false false h = absurd (true≢false (sym h))

pub signs_same : (a b : Bool) → not (beq a b) ≡ false → same_bool a b ≡ true
unfolding same_bool
signs_same true true h = refl
signs_same true false h = absurd (true≢false h)
signs_same false true h = absurd (true≢false h)
signs_same false false h = refl

module _ (a b : Bytes) (x y : Normal) (is_x : x ≡ normal_form a) (is_y : y ≡ normal_form b) where
  pub sign-differs : same_bool x.negative y.negative ≡ false → false ≡ same_worth (worth a) (worth b)
  unfolding normal_form worth same_worth
  sign-differs h = rw (rw (is_x, is_y) at h)

  pub power_differs : same_integer x.power y.power ≡ false → false ≡ same_worth (worth a) (worth b)
  unfolding normal_form worth same_worth
  power_differs h = rw (rw (is_x, is_y) at h, and-false, and-false)

  pub count_differs : (x.count ≡ y.count → ⊥) → false ≡ same_worth (worth a) (worth b)
  unfolding normal_form worth same_worth
  count_differs h = rw (same_length _ _ (rw (is_x, is_y) at h), and-false)

  pub digits_decide : (r : Bool) → same_bool x.negative y.negative ≡ true → same_integer x.power y.power ≡ true → x.count ≡ y.count →
      r ≡ same_text (take x.count (mantissa (drop x.first a))) (take x.count (mantissa (drop y.first b))) → r ≡ same_worth (worth a) (worth b)
  unfolding normal_form worth same_worth
  digits_decide r s p c d =
      let left : take x.count (mantissa (drop x.first a)) ≡ (worth a).significand = rw is_x (normal_digits a) in
      let right : take x.count (mantissa (drop y.first b)) ≡ (worth b).significand = rw (c, is_y) (normal_digits b) in
      rw (rw (is_x, is_y) at s, rw (is_x, is_y) at p) (rw (left, right) at d ∙ sym (and-true _))

  pub enough_left : x.count ≤ length (mantissa (drop x.first a))
  enough_left = rw is_x (normal_enough a)

  pub enough_right : x.count ≡ y.count → x.count ≤ length (mantissa (drop y.first b))
  enough_right c = rw (c, is_y) (normal_enough b)

-- ---- what the code's answer says of the text

pub is_over : (t : Bytes) → normalized t ≡ None → within_limits t ≡ false
unfolding normalized
is_over t h = go (within_limits t) h
  where
    go : (l : Bool) → (if l then Some (normal_form t) else None) ≡ None → l ≡ false
    go true e = let z : ◌≡◌ {A = ℕ} 0 1 = cc in absurd (omega arith)
    go false e = refl

pub is_number : (t : Bytes) (n : Normal) → normalized t ≡ Some n → (within_limits t ≡ true) × (n ≡ normal_form t)
unfolding normalized
is_number t n h = go (within_limits t) h
  where
    go : (l : Bool) → (if l then Some (normal_form t) else None) ≡ Some n → (l ≡ true) × (n ≡ normal_form t)
    go true e = (refl, cc)
    go false e = let z : ◌≡◌ {A = ℕ} 0 1 = cc in absurd (omega arith)

module _ (a b : Bytes) where
  pub over_left : within_limits a ≡ false → false ≡ same_number a b
  unfolding same_number
  over_left h = rw h

  pub over_right : within_limits b ≡ false → false ≡ same_number a b
  unfolding same_number
  over_right h = rw (h, and-false (within_limits a))

  pub both-within_limits : within_limits a ≡ true → within_limits b ≡ true → same_number a b ≡ same_worth (worth a) (worth b)
  unfolding same_number
  both-within_limits h k = rw (h, k)
