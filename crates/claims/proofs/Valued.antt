-- A number by its parts, each with what it means, and that this is the grammar with the statement's values. In this form the readers of numbers and the
-- worth are compared with the grammar.
use mathlib.Core.Path.{◌≡◌, refl, sym, subst}
use mathlib.Core.Bool.{Bool, true, false}
use mathlib.Core.List.{[], ◌∷◌, ◌++◌}
use Prim.Native.Nat.{ℕ, ◌≤◌}
use Prim.Native.Char.{code}
use native.Mathlib.Omega.{arith}
use lib.ListN.{length}
use lib.IntN.{ℤ, pos, neg_ℤ, ◌-ℤ◌}
use borrow.Author.Tests.{ne_eqb}
use Rattle.spec.specs.Bytes.{Bytes}
use Rattle.grammar.specs.Grammar as Grammar
use Rattle.grammar.specs.Grammar.{optional, absent, present, *DIGIT, 1*DIGIT, some}
use Rattle.claims.specs.Numbers.{Exact, positional, with_sign, is_present, fraction_of, signed_integer, power_of, Writes, writes}

-- DIGIT = %x30-39
abbrev pub Digit : ℕ → Type 0
Digit d = (code "0" ≤ d) × (d ≤ code "9")

-- *DIGIT
pub data AllDigits : Bytes → Type 0 where
  none : AllDigits []
  more : {d : ℕ} {ds : Bytes} → Digit d → AllDigits ds → AllDigits (d ∷ ds)

-- 1*DIGIT
pub record Digits (ds : Bytes) : Type 0 where
  pub some : 1 ≤ length ds
  pub all : AllDigits ds

-- [ minus ], and whether it is there
pub data Minus : Bytes → Bool → Type 0 where
  none : Minus [] false
  minus : Minus (code "-" ∷ []) true

-- int = zero / ( digit1-9 *DIGIT )
pub data Int : Bytes → Type 0 where
  zero : Int (code "0" ∷ [])
  nonzero : (d : ℕ) (ds : Bytes) → Digit d → (d ≡ code "0" → ⊥) → AllDigits ds → Int (d ∷ ds)

-- [ frac ], frac = decimal-point 1*DIGIT, and its digits
pub data Frac : Bytes → Bytes → Type 0 where
  none : Frac [] []
  point : (ds : Bytes) → Digits ds → Frac (code "." ∷ ds) ds

-- e = %x65 / %x45
pub data E : ℕ → Type 0 where
  lower_case : E (code "e")
  upper_case : E (code "E")

-- [ exp ], exp = e [ minus / plus ] 1*DIGIT, and the power of ten that it says
pub data Exp : Bytes → ℤ → Type 0 where
  none : Exp [] (pos 0)
  plain : (e : ℕ) (ds : Bytes) → E e → Digits ds → Exp (e ∷ ds) (pos (positional ds))
  plus : (e : ℕ) (ds : Bytes) → E e → Digits ds → Exp (e ∷ code "+" ∷ ds) (pos (positional ds))
  minus : (e : ℕ) (ds : Bytes) → E e → Digits ds → Exp (e ∷ code "-" ∷ ds) (neg_ℤ (pos (positional ds)))

-- a number by its parts, and its exact value
pub data Valued : Bytes → Exact → Type 0 where
  valued : (m i f x : Bytes) (negative : Bool) (fraction : Bytes) (exponent : ℤ) → Minus m negative → Int i → Frac f fraction → Exp x exponent →
      Valued (m ++ (i ++ (f ++ x)))
      (record { integer = with_sign negative (positional (i ++ fraction)); power = exponent -ℤ pos (length fraction) })

-- ---- from the grammar
from-digits : {w : Bytes} → *DIGIT w → AllDigits w
from-digits Grammar.none = AllDigits.none
from-digits (Grammar.more h r) = AllDigits.more h (from-digits r)

from_some : {w : Bytes} → 1*DIGIT w → Digits w
from_some (some h r) = record { some = omega arith; all = AllDigits.more h (from-digits r) }

from-minus : {m : Bytes} → optional Grammar.minus m → Minus m (is_present m)
unfolding is_present
from-minus absent = Minus.none
from-minus (present Grammar.minus.minus-sign) = Minus.minus

from_int : {i : Bytes} → Grammar.int i → Int i
from_int Grammar.zero = Int.zero
from_int (Grammar.nonzero {d} {w} h r) = nonzero d w (omega arith, h.1) (λ e. omega arith) (from-digits r)

from-frac : {f : Bytes} → optional Grammar.frac f → Frac f (fraction_of f)
unfolding fraction_of
from-frac absent = Frac.none
from-frac (present (Grammar.decimal_point {w} r)) = point w (from_some r)

from-e : {b : ℕ} → Grammar.e b → E b
from-e Grammar.e.lower_case = E.lower_case
from-e Grammar.e.upper_case = E.upper_case

-- digits without a sign before them
unsigned : {w : Bytes} → 1*DIGIT w → signed_integer w ≡ pos (positional w)
unfolding signed_integer
unsigned (some {d} {w} h r) = rw (ne_eqb d 45 (omega arith), ne_eqb d 43 (omega arith))

from-exp : {x : Bytes} → optional Grammar.exp x → Exp x (power_of x)
unfolding power_of signed_integer
from-exp absent = Exp.none
from-exp (present (Grammar.exponent {b = b} {w = w} e absent r)) = subst (Exp (b ∷ w)) (sym (unsigned r)) (plain b w (from-e e) (from_some r))
from-exp (present (Grammar.exponent {b = b} {w = w} e (present Grammar.sign.minus-sign) r)) = Exp.minus b w (from-e e) (from_some r)
from-exp (present (Grammar.exponent {b = b} {w = w} e (present Grammar.sign.plus-sign) r)) = plus b w (from-e e) (from_some r)

pub writes_valued : {t : Bytes} {x : Exact} → Writes t x → Valued t x
writes_valued (writes {m} {i} {f} {x} a b c d) = valued m i f x _ _ _ (from-minus a) (from_int b) (from-frac c) (from-exp d)

-- ---- and to it
to_digits : {w : Bytes} → AllDigits w → *DIGIT w
to_digits AllDigits.none = Grammar.none
to_digits (AllDigits.more h r) = Grammar.more h (to_digits r)

to_some : {w : Bytes} → Digits w → 1*DIGIT w
to_some {w} d = go w d.some d.all
  where
    go : (w : Bytes) → 1 ≤ length w → AllDigits w → 1*DIGIT w
    go [] l a = absurd (omega arith)
    go (c ∷ w) l (AllDigits.more h r) = some h (to_digits r)

to-minus : {m : Bytes} {negative : Bool} → Minus m negative → optional Grammar.minus m × (is_present m ≡ negative)
unfolding is_present
to-minus Minus.none = (absent, refl)
to-minus Minus.minus = (present Grammar.minus.minus-sign, refl)

to-int : {i : Bytes} → Int i → Grammar.int i
to-int Int.zero = Grammar.zero
to-int (nonzero d ds h n a) = Grammar.nonzero (first d h.0 n, h.1) (to_digits a)
  where
    first : (d : ℕ) → 0x30 ≤ d → (d ≡ 0x30 → ⊥) → 0x31 ≤ d
    first d h n = omega arith

to-frac : {f fraction : Bytes} → Frac f fraction → optional Grammar.frac f × (fraction_of f ≡ fraction)
unfolding fraction_of
to-frac Frac.none = (absent, refl)
to-frac (point ds d) = (present (Grammar.decimal_point (to_some d)), refl)

to-e : {b : ℕ} → E b → Grammar.e b
to-e E.lower_case = Grammar.e.lower_case
to-e E.upper_case = Grammar.e.upper_case

to-exp : {x : Bytes} {e : ℤ} → Exp x e → optional Grammar.exp x × (power_of x ≡ e)
unfolding power_of signed_integer
to-exp Exp.none = (absent, refl)
to-exp (plain b ds e d) = (present (Grammar.exponent {s = []} (to-e e) absent (to_some d)), unsigned (to_some d))
to-exp (plus b ds e d) = (present (Grammar.exponent {s = 0x2B ∷ []} (to-e e) (present Grammar.sign.plus-sign) (to_some d)), refl)
to-exp (Exp.minus b ds e d) = (present (Grammar.exponent {s = 0x2D ∷ []} (to-e e) (present Grammar.sign.minus-sign) (to_some d)), refl)

pub valued_writes : {t : Bytes} {x : Exact} → Valued t x → Writes t x
valued_writes (valued m i f x negative fraction exponent a b c d) =
    let (a', is) = to-minus a in
    let (c', behind) = to-frac c in
    let (d', power) = to-exp d in
    rw (← is, ← behind, ← power) (writes a' (to-int b) c' d')
