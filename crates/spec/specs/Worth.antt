-- What a number is worth: SPECIFICATION 7.3. The zeros on both ends of the digits are dropped, and a signed power of ten is adjusted.
-- So 4400 and 4.4e3 are both the digits 44 and the power 2.
use Rattle.std.specs.Prelude.{ℕ, ◌+◌, ◌-◌, ◌*◌, [], ◌∷◌, reverse, Bool, false, ◌&&◌, length, eqb, ltb, ℤ, pos, neg_ℤ, ◌+ℤ◌, ◌-ℤ◌, if◌then◌else◌}
use Prim.Native.Char.{code}
use Rattle.spec.specs.Bytes.{Bytes}
use Rattle.spec.specs.Numbers.{is_digit, is_e}

-- The significand is the digits, in ASCII, with no zero at either end: the number is that integer times ten to the power, with its sign.
-- T-04: "a zero of either sign, with any exponent, equals any other". So a zero has no digits, the power 0 and no sign.
pub record Worth : Type 0 where
  pub negative : Bool
  pub significand : Bytes
  pub power : ℤ

-- the digits of a number before its exponent, on either side of the point
unfoldable pub mantissa : Bytes → Bytes
mantissa [] = []
mantissa (b ∷ t) = if is_e b then [] else if is_digit b then b ∷ mantissa t else mantissa t

-- how many of them follow the point
unfoldable pub fraction_digits : Bytes → ℕ
fraction_digits [] = 0
fraction_digits (b ∷ t) = if eqb b (code ".") then length (mantissa t) else if is_e b then 0 else fraction_digits t

-- the integer that digits write, after those that write n
unfoldable pub decimal : ℕ → Bytes → ℕ
decimal n [] = n
decimal n (b ∷ t) = decimal (n * 10 + (b - code "0")) t

-- the exponent, after its letter
unfoldable pub signed_exponent : Bytes → ℤ
signed_exponent [] = pos 0
signed_exponent (b ∷ t) =
    if eqb b (code "-") then neg_ℤ (pos (decimal 0 t)) else
    if eqb b (code "+") then pos (decimal 0 t) else pos (decimal 0 (b ∷ t))

-- the exponent of a number, 0 where none is written
unfoldable pub exponent : Bytes → ℤ
exponent [] = pos 0
exponent (b ∷ t) = if is_e b then signed_exponent t else exponent t

unfoldable pub drop_zeros : Bytes → Bytes
drop_zeros [] = []
drop_zeros (b ∷ t) = if eqb b (code "0") then drop_zeros t else b ∷ t

-- digits with no zero at their end
unfoldable pub trimmed : Bytes → Bytes
trimmed t = reverse (drop_zeros (reverse t))

-- whether a minus stands in front
unfoldable pub is_negative : Bytes → Bool
is_negative [] = false
is_negative (b ∷ t) = eqb b (code "-")

-- a power of ten, and 0 where there is no digit to be multiplied by it
unfoldable pub unless_zero : Bytes → ℤ → ℤ
unless_zero [] power = pos 0
unless_zero (b ∷ t) power = power

-- The worth of a number by its source text. It is below zero where it has a minus, and a digit that is not 0. Its power of ten is the exponent,
-- less the digits after the point, and one more for each zero that was dropped at the end.
unfoldable pub worth : Bytes → Worth
worth t =
    let digits = drop_zeros (mantissa t) in
    let significand = trimmed digits in
    let dropped = length digits - length significand in
    record {
      negative = is_negative t && ltb 0 (length significand);
      significand = significand;
      power = unless_zero significand ((exponent t -ℤ pos (fraction_digits t)) +ℤ pos dropped);
    }
