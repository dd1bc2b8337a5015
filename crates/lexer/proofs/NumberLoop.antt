-- The turns of the definition's loops over the digits of a number.
use Prim.Native.Nat.{ℕ, zero, suc, ◌+◌, ◌-◌, ◌*◌, ◌≤◌}
use Prim.Native.Char.{code}
use mathlib.Core.Path.{◌≡◌, refl, sym}
use mathlib.Core.Bool.{true, false}
use lib.Dec.{leb, ltb}
use Rattle.spec.specs.Outcome.{ok, refused, ◌>>=◌}
use Rattle.spec.specs.Refusal.{number_over_limit}
use Rattle.spec.specs.Limits.{max_number, max_exponent}
use Rattle.spec.specs.Bytes.{Bytes, byte, within}
use Rattle.spec.specs.Numbers.{is_digit, counted, digits, exponent_digits}
use Rattle.lexer.proofs.Tests.{within_bounds}
use Rattle.lexer.proofs.AnswerLaws.{passed}

pub not_digit : is_digit 0 ≡ false
unfolding is_digit within
not_digit = refl

pub counted_next : (start at next : ℕ) → counted start at ≡ ok next → next ≡ at + 1
unfolding counted
counted_next start at next e = sym (passed (ltb at (start + max_number)) (at + 1) next number_over_limit at e).1

module _ (s : Bytes) (start at : ℕ) where
  pub digits_more : (next : ℕ) → is_digit (byte s at) ≡ true → counted start at ≡ ok next → (fuel : ℕ) →
      digits (suc fuel) s start at ≡ digits fuel s start next
  unfolding digits ◌>>=◌
  digits_more next t e fuel = rw (t, e)

  pub digits_stopped : (number place : ℕ) → is_digit (byte s at) ≡ true → counted start at ≡ refused number place → (fuel : ℕ) →
      digits (suc fuel) s start at ≡ refused number place
  unfolding digits ◌>>=◌
  digits_stopped number place t e fuel = rw (t, e)

  pub digits_end : is_digit (byte s at) ≡ false → (fuel : ℕ) → digits (suc fuel) s start at ≡ ok at
  unfolding digits
  digits_end t fuel = rw t

  pub digits_none : digits zero s start at ≡ ok at
  unfolding digits
  digits_none = refl

module _ (s : Bytes) (start size at : ℕ) where
  pub exponent_more : (next : ℕ) → is_digit (byte s at) ≡ true → leb (size * 10 + (byte s at - code "0")) max_exponent ≡ true →
      counted start at ≡ ok next → (fuel : ℕ) →
      exponent_digits (suc fuel) s start size at ≡ exponent_digits fuel s start (size * 10 + (byte s at - code "0")) next
  unfolding exponent_digits ◌>>=◌
  exponent_more next t l e fuel = rw (t, l, e)

  pub exponent_stopped : (number place : ℕ) → is_digit (byte s at) ≡ true → leb (size * 10 + (byte s at - code "0")) max_exponent ≡ true →
      counted start at ≡ refused number place → (fuel : ℕ) → exponent_digits (suc fuel) s start size at ≡ refused number place
  unfolding exponent_digits ◌>>=◌
  exponent_stopped number place t l e fuel = rw (t, l, e)

  pub exponent_large : is_digit (byte s at) ≡ true → leb (size * 10 + (byte s at - code "0")) max_exponent ≡ false → (fuel : ℕ) →
      exponent_digits (suc fuel) s start size at ≡ refused number_over_limit at
  unfolding exponent_digits
  exponent_large t l fuel = rw (t, l)

  pub exponent_end : is_digit (byte s at) ≡ false → (fuel : ℕ) → exponent_digits (suc fuel) s start size at ≡ ok at
  unfolding exponent_digits
  exponent_end t fuel = rw t

  pub exponent_none : exponent_digits zero s start size at ≡ ok at
  unfolding exponent_digits
  exponent_none = refl

pub digit_bounds : (b : ℕ) → is_digit b ≡ true → (48 ≤ b) × (b ≤ 57)
unfolding is_digit
digit_bounds b t = within_bounds 48 57 b t
