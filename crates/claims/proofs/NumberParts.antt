-- What the definitions of Worth find in a number's text, by its parts.
use mathlib.Core.Path.{◌≡◌, refl, ap, ap₂, sym, ◌∙◌}
use mathlib.Core.Bool.{Bool, true, false, true≢false}
use mathlib.Core.List.{[], ◌∷◌, ◌++◌, append-nil}
use Prim.Native.Nat.{ℕ}
use native.Mathlib.Omega.{arith}
use lib.Dec.{eqb}
use lib.ListN.{length}
use lib.IntN.{ℤ, pos, neg_ℤ, ◌-ℤ◌}
use borrow.Author.Tests.{ne_eqb}
use Rattle.spec.specs.Bytes.{Bytes, within}
use Rattle.spec.specs.Numbers.{is_digit, is_e}
use Rattle.spec.specs.Worth.{decimal, mantissa, fraction_digits, signed_exponent, exponent, is_negative}
use Rattle.spec.specs.Pointer.{all_digits}
use Rattle.claims.proofs.Valued as Statement
use Rattle.claims.specs.Numbers.{positional, Exact, with_sign}
use Rattle.claims.proofs.Valued.{Digits, Minus, Int, nonzero, Frac, point, Exp, plain, plus, Valued, valued}
use Rattle.claims.proofs.Normal.{digit_bounds, is_digit_lem, is_e_lem, digits_cons, digits_parts, all_digits_lem, digits_append, decimal_is_positional}

-- One byte: which tests it passes

digit_no-e : (c : ℕ) → is_digit c ≡ true → is_e c ≡ false
unfolding is_e
digit_no-e c h = let b = digit_bounds c h in rw (ne_eqb c 101 (omega arith), ne_eqb c 69 (omega arith))

digit_no_point : (c : ℕ) → is_digit c ≡ true → eqb c 46 ≡ false
digit_no_point c h = let b = digit_bounds c h in ne_eqb c 46 (omega arith)

e-no_point : (c : ℕ) → is_e c ≡ true → eqb c 46 ≡ false
unfolding is_e
e-no_point c h = ne_eqb c 46 (λ q. true≢false (sym h ∙ rw q))

-- Digits in front

mantissa-digits : (ds r : Bytes) → all_digits ds ≡ true → mantissa (ds ++ r) ≡ ds ++ mantissa r
unfolding mantissa
mantissa-digits [] r h = refl
mantissa-digits (c ∷ ds) r h =
    let q = digits_parts c ds h in
    rw (digit_no-e c q.0, q.0) (ap (◌∷◌ c) (mantissa-digits ds r q.1))

fraction_digits_lem : (ds r : Bytes) → all_digits ds ≡ true → fraction_digits (ds ++ r) ≡ fraction_digits r
unfolding fraction_digits
fraction_digits_lem [] r h = refl
fraction_digits_lem (c ∷ ds) r h =
    let q = digits_parts c ds h in
    rw (digit_no_point c q.0, digit_no-e c q.0) (fraction_digits_lem ds r q.1)

exponent_digits_lem : (ds r : Bytes) → all_digits ds ≡ true → exponent (ds ++ r) ≡ exponent r
unfolding exponent
exponent_digits_lem [] r h = refl
exponent_digits_lem (c ∷ ds) r h =
    let q = digits_parts c ds h in
    rw (digit_no-e c q.0) (exponent_digits_lem ds r q.1)

-- The exponent

signed_digits_lem : (ds : Bytes) → Digits ds → signed_exponent ds ≡ pos (positional ds)
unfolding signed_exponent
signed_digits_lem [] d = absurd (omega (arith, d.some))
signed_digits_lem (c ∷ ds) d =
    let b = digit_bounds c (digits_parts c ds (all_digits_lem d.all)).0 in
    rw (ne_eqb c 45 (omega arith), ne_eqb c 43 (omega arith)) (ap pos (decimal_is_positional (c ∷ ds)))

record Tail (x : Bytes) (fraction : Bytes) (e : ℤ) : Type 0 where
  digits : mantissa x ≡ fraction
  after_point : fraction_digits x ≡ length fraction
  power : exponent x ≡ e

exp-tail : {x : Bytes} {e : ℤ} → Exp x e → Tail x [] e
unfolding mantissa fraction_digits exponent signed_exponent
exp-tail Statement.none = record { digits = refl; after_point = refl; power = refl }
exp-tail (plain e ds b d) = let h = is_e_lem b in record { digits = rw h; after_point = rw (e-no_point e h, h); power = rw h (signed_digits_lem ds d) }
exp-tail (plus e ds b d) =
    let h = is_e_lem b in
    record { digits = rw h; after_point = rw (e-no_point e h, h); power = rw h (ap pos (decimal_is_positional ds)) }
exp-tail (Statement.minus e ds b d) =
    let h = is_e_lem b in
    record { digits = rw h; after_point = rw (e-no_point e h, h); power = rw h (ap (λ n. neg_ℤ (pos n)) (decimal_is_positional ds)) }

-- The fraction, the digits before it, and the sign

frac-tail : {f x fraction : Bytes} {e : ℤ} → Frac f fraction → Tail x [] e → Tail (f ++ x) fraction e
unfolding mantissa fraction_digits exponent is_e is_digit within
frac-tail Statement.none t = t
frac-tail {x = x} (point ds d) t =
    let all : mantissa (ds ++ x) ≡ ds = mantissa-digits ds x (all_digits_lem d.all) ∙ ap (λ r. ds ++ r) t.digits ∙ append-nil ds in
    record { digits = all; after_point = ap length all; power = exponent_digits_lem ds x (all_digits_lem d.all) ∙ t.power }

frac-digits : {f fraction : Bytes} → Frac f fraction → all_digits fraction ≡ true
unfolding all_digits
frac-digits Statement.none = refl
frac-digits (point ds d) = all_digits_lem d.all

int-digits : {i : Bytes} → Int i → all_digits i ≡ true
unfolding all_digits is_digit within
int-digits Statement.zero = refl
int-digits (nonzero d ds h n a) = digits_cons d ds (is_digit_lem h) (all_digits_lem a)

-- no digit is a minus
int-positive : {i : Bytes} (r : Bytes) → Int i → is_negative (i ++ r) ≡ false
unfolding is_negative
int-positive r Statement.zero = refl
int-positive r (nonzero d ds h n a) = ne_eqb d 45 (omega arith)

-- what Worth finds in a number's text is its exact value
pub record Found (t : Bytes) (x : Exact) : Type 0 where
  pub digits : all_digits (mantissa t) ≡ true
  pub integer : x.integer ≡ with_sign (is_negative t) (decimal 0 (mantissa t))
  pub power : exponent t -ℤ pos (fraction_digits t) ≡ x.power

-- [ minus ] changes the sign alone
record Signed (m : Bytes) (negative : Bool) (r : Bytes) : Type 0 where
  sign : is_negative (m ++ r) ≡ negative
  digits : mantissa (m ++ r) ≡ mantissa r
  after_point : fraction_digits (m ++ r) ≡ fraction_digits r
  power : exponent (m ++ r) ≡ exponent r

signed : {m : Bytes} {negative : Bool} (r : Bytes) → Minus m negative → is_negative r ≡ false → Signed m negative r
unfolding mantissa fraction_digits exponent is_negative is_e is_digit within
signed r Statement.none positive = record { sign = positive; digits = refl; after_point = refl; power = refl }
signed r Statement.minus positive = record { sign = refl; digits = refl; after_point = refl; power = refl }

pub worth_finds : {t : Bytes} {x : Exact} → Valued t x → Found t x
worth_finds (valued m i f x negative fraction e sign int frac exp) =
    let tail = frac-tail frac (exp-tail exp) in
    let s = signed (i ++ (f ++ x)) sign (int-positive (f ++ x) int) in
    let whole = int-digits int in
    let all : mantissa (m ++ (i ++ (f ++ x))) ≡ i ++ fraction =
    s.digits ∙ mantissa-digits i (f ++ x) whole ∙ ap (λ r. i ++ r) tail.digits in
    record {
      digits = rw all (digits_append i fraction whole (frac-digits frac));
      integer = ap₂ with_sign (sym s.sign) (sym (ap (decimal 0) all ∙ decimal_is_positional (i ++ fraction)));
      power =
          ap₂ (λ z n. z -ℤ pos n) (s.power ∙ exponent_digits_lem i (f ++ x) whole ∙ tail.power)
          (s.after_point ∙ fraction_digits_lem i (f ++ x) whole ∙ tail.after_point);
    }
