-- What comparing two numbers by their worth means: SPECIFICATION 7.3, and RFC 6902, section 4.6, "numbers: are
-- considered equal if their values are numerically equal". The exact value of a number's text is read off RFC 8259's grammar, with no
-- digit dropped and nothing rounded. No rule speaks of zero: an integer has one zero, so minus zero is zero (SPECIFICATION 7.4, T-04).
use Rattle.std.specs.Prelude.{◌≡◌, ◌↔◌, ℕ, ◌+◌, ◌-◌, ◌*◌, ◌^◌, [], ◌∷◌, ◌++◌, Bool, true, false, length, eqb, ℤ, pos, negsuc, neg_ℤ, ◌-ℤ◌, ◌*ℤ◌, if◌then◌else◌}
use Prim.Native.Char.{code}
use Rattle.spec.specs.Bytes.{Bytes}
use Rattle.spec.specs.Proper.{NumberText}
use Rattle.spec.specs.Worth.{worth}
use Rattle.spec.specs.Equality.{same_worth}
use Rattle.grammar.specs.Grammar.{optional, minus, int, frac, exp}

-- an integer times a power of ten
pub record Exact : Type 0 where
  pub integer : ℤ
  pub power : ℤ

-- the integer that digits write: each digit times the power of ten of its position
unfoldable pub positional : Bytes → ℕ
positional [] = 0
positional (d ∷ ds) = (d - code "0") * 10 ^ length ds + positional ds

-- an integer with a minus before it, or with none
unfoldable pub with_sign : Bool → ℕ → ℤ
with_sign false n = pos n
with_sign true n = neg_ℤ (pos n)

-- whether [ minus ] is there
unfoldable pub is_present : Bytes → Bool
is_present [] = false
is_present (b ∷ w) = true

-- the digits of [ frac ], behind its point
unfoldable pub fraction_of : Bytes → Bytes
fraction_of [] = []
fraction_of (point ∷ ds) = ds

-- the integer of [ minus / plus ] 1*DIGIT
unfoldable pub signed_integer : Bytes → ℤ
signed_integer [] = pos 0
signed_integer (b ∷ ds) =
    if eqb b (code "-") then neg_ℤ (pos (positional ds)) else
    if eqb b (code "+") then pos (positional ds) else pos (positional (b ∷ ds))

-- the power of ten that [ exp ] says, behind its letter
unfoldable pub power_of : Bytes → ℤ
power_of [] = pos 0
power_of (e ∷ ds) = signed_integer ds

-- number = [ minus ] int [ frac ] [ exp ], and its exact value: the integer of all the digits on either side of the point, with its sign,
-- times ten to the exponent less the number of digits after the point.
pub data Writes : Bytes → Exact → Type 0 where
  writes : {m i f x : Bytes} → optional minus m → int i → optional frac f → optional exp x →
      Writes (m ++ (i ++ (f ++ x)))
      (record { integer = with_sign (is_present m) (positional (i ++ fraction_of f)); power = power_of x -ℤ pos (length (fraction_of f)) })

-- an integer, and 0 where it is negative
unfoldable pub natural : ℤ → ℕ
natural (pos n) = n
natural (negsuc n) = 0

-- how far a power lies above another, and 0 where it lies below
unfoldable pub above : ℤ → ℤ → ℕ
above e f = natural (e -ℤ f)

-- Numerically equal: both integers, scaled to the smaller of the two powers, are the same.
pub record SameNumber (x y : Exact) : Type 0 where
  pub value : x.integer *ℤ pos (10 ^ above x.power y.power) ≡ y.integer *ℤ pos (10 ^ above y.power x.power)

pub record NumbersStatement : Type 0 where
  -- a text that is one number has an exact value
  pub valued : (t : Bytes) → NumberText t → (x : Exact) × Writes t x
  -- and only one, however the text is cut
  pub one_value : (t : Bytes) (x y : Exact) → Writes t x → Writes t y → SameNumber x y
  -- by exact value, SPECIFICATION 7.3, and by nothing else
  pub by_value : (s t : Bytes) (x y : Exact) → Writes s x → Writes t y → same_worth (worth s) (worth t) ≡ true ↔ SameNumber x y
  -- T-04: "a zero of either sign, with any exponent, equals any other", and nothing else
  pub zeros : (s t : Bytes) (x y : Exact) → Writes s x → Writes t y → x.integer ≡ pos 0 →
      (same_worth (worth s) (worth t) ≡ true) ↔ (y.integer ≡ pos 0)
