-- JSON's numbers: RFC 8259, section 6, production by production, within the limits of SPECIFICATION 1.3. `start` is where the number begins. Each
-- reader gives the place after what it read, 3 at the first byte that no valid text has there, or 7 at the first byte past a limit.
use Rattle.std.specs.Prelude.{ℕ, zero, suc, ◌+◌, ◌-◌, ◌*◌, Bool, ◌||◌, length, leb, ltb, eqb, if◌then◌else◌}
use Prim.Native.Char.{code}
use Rattle.spec.specs.Outcome.{Outcome, ok, refused, ◌>>=◌}
use Rattle.spec.specs.Refusal.{number_over_limit}
use Rattle.spec.specs.Limits.{max_number, max_exponent}
use Rattle.spec.specs.Bytes.{Bytes, byte, byte_in, within}

-- DIGIT: 0 to 9
unfoldable pub is_digit : ℕ → Bool
is_digit b = within (code "0") (code "9") b

-- e: the letter of an exponent, of either case
unfoldable pub is_e : ℕ → Bool
is_e b = eqb b (code "e") || eqb b (code "E")

-- the place after a byte of the number, or 7 where it is the number's byte 129
unfoldable pub counted : ℕ → ℕ → Outcome ℕ
counted start at = if ltb at (start + max_number) then ok (at + 1) else refused number_over_limit at

-- *DIGIT
unfoldable pub digits : ℕ → Bytes → ℕ → ℕ → Outcome ℕ
digits zero s start at = ok at
digits (suc fuel) s start at = if is_digit (byte s at) then counted start at >>= digits fuel s start else ok at

-- 1*DIGIT
unfoldable pub some_digits : Bytes → ℕ → ℕ → Outcome ℕ
some_digits s start at = do
  _ ← byte_in s at (code "0") (code "9")
  digits (length s) s start at

-- int = zero / ( digit1-9 *DIGIT )
unfoldable pub int : Bytes → ℕ → ℕ → Outcome ℕ
int s start at = if eqb (byte s at) (code "0") then counted start at else some_digits s start at

-- [ frac ], frac = decimal-point 1*DIGIT
unfoldable pub frac : Bytes → ℕ → ℕ → Outcome ℕ
frac s start at = if eqb (byte s at) (code ".") then counted start at >>= some_digits s start else ok at

-- [ minus / plus ]
unfoldable pub sign : Bytes → ℕ → ℕ → Outcome ℕ
sign s start at = if eqb (byte s at) (code "+") || eqb (byte s at) (code "-") then counted start at else ok at

-- *DIGIT of an exponent whose size so far is given: 7 at the digit with which it passes 9,999
unfoldable pub exponent_digits : ℕ → Bytes → ℕ → ℕ → ℕ → Outcome ℕ
exponent_digits zero s start size at = ok at
exponent_digits (suc fuel) s start size at =
    if is_digit (byte s at) then
    (let more = size * 10 + (byte s at - code "0") in
    if leb more max_exponent then counted start at >>= exponent_digits fuel s start more else refused number_over_limit at) else ok at

-- [ minus / plus ] 1*DIGIT
unfoldable pub signed_digits : Bytes → ℕ → ℕ → Outcome ℕ
signed_digits s start at = do
  first ← sign s start at
  _ ← byte_in s first (code "0") (code "9")
  exponent_digits (length s) s start 0 first

-- [ exp ], exp = e [ minus / plus ] 1*DIGIT
unfoldable pub exp : Bytes → ℕ → ℕ → Outcome ℕ
exp s start at = if is_e (byte s at) then counted start at >>= signed_digits s start else ok at

-- [ minus ]
unfoldable pub minus : Bytes → ℕ → ℕ
minus s at = if eqb (byte s at) (code "-") then at + 1 else at

-- number = [ minus ] int [ frac ] [ exp ]
unfoldable pub number : Bytes → ℕ → Outcome ℕ
number s start = do
  point ← int s start (minus s start)
  letter ← frac s start point
  exp s start letter
