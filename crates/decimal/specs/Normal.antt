-- A number's normal form as the code holds it: SPECIFICATION 7.3, without the zeros on both ends of the digits, and with a signed power of
-- ten. No digit is copied: the form says where in the text the significant digits begin, and how many they are.
use Rattle.std.specs.Prelude.{ℕ, suc, [], ◌∷◌, Bool, ◌&&◌, length, leb, nat_abs, Option, Some, None, if◌then◌else◌}
use Prim.Native.Char.{code}
use Rattle.spec.specs.Limits.{max_number, max_exponent}
use Rattle.spec.specs.Bytes.{Bytes, within}
use Rattle.spec.specs.Numbers.{is_e}
use Rattle.spec.specs.Worth.{exponent, worth}
use Rattle.spec.specs.Equality.{same_worth}
use Rattle.decimal.specs.declared.Normal.{Normal}

unfoldable pub is_nonzero_digit : ℕ → Bool
is_nonzero_digit b = within (code "1") (code "9") b

-- the place of the first significant digit, or where the mantissa ends
unfoldable pub first_digit : Bytes → ℕ
first_digit [] = 0
first_digit (b ∷ t) = if is_e b then 0 else if is_nonzero_digit b then 0 else suc (first_digit t)

-- The limits of a number, SPECIFICATION 1.3: its length, and the size of its written exponent. Every number that the reader takes is within them
-- (proofs/Accepted).
unfoldable pub within_limits : Bytes → Bool
within_limits t = leb (length t) max_number && leb (nat_abs (exponent t)) max_exponent

unfoldable pub normal_form : Bytes → Normal
normal_form t =
    record {
      negative = (worth t).negative;
      first = first_digit t;
      count = length (worth t).significand;
      power = (worth t).power;
    }

unfoldable pub normalized : Bytes → Option Normal
normalized t = if within_limits t then Some (normal_form t) else None

-- the equality of two numbers' texts; a text over a limit equals none
unfoldable pub same_number : Bytes → Bytes → Bool
same_number a b = within_limits a && (within_limits b && same_worth (worth a) (worth b))
