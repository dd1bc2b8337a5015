-- Laws of a number's exponent, for the loops that go over its text byte by byte.
use Rattle.std.specs.Prelude.{Option, Some, None, nat_eq, slice_get, option_copied, ◌||◌, if◌then◌else◌}
use Rattle.std.specs.Option.{option_eq}
use Rattle.std.specs.List.{position, position_or_len}
use denote.Ref.{Bor}
use Prim.Native.Nat.{ℕ, suc, ◌+◌, ◌-◌, ◌*◌, ◌≤◌, ◌<◌, min}
use Prim.Native.Char.{code}
use mathlib.Core.Path.{◌≡◌, refl, sym, ◌∙◌, ap}
use mathlib.Core.List.{[], ◌∷◌}
use mathlib.Core.Bool.{Bool, true, false, true≢false}
use native.Mathlib.Nat.{min-eq_left, min-eq_right}
use native.Mathlib.Omega.{arith}
use lib.ListN.{length, get_or, take, drop, drop_of_length-le}
use lib.Dec.{eqb}
use lib.IntN.{ℤ, pos, neg_ℤ, nat_abs}
use Rattle.spec.specs.Limits.{max_exponent}
use Rattle.spec.specs.Bytes.{Bytes}
use Rattle.spec.specs.Numbers.{is_e}
use Rattle.spec.specs.Worth.{decimal, signed_exponent, exponent, is_negative}
use Rattle.decimal.proofs.MantissaLaws.{from_here, rest, place_found, place_missing}
use Rattle.decimal.proofs.IntegerLaws.{negated_size}

module _ (t : Bytes) (i : ℕ) (h : i < length t) where
  pub decimal_next : (n : ℕ) → decimal n (drop i t) ≡ decimal (n * 10 + (get_or t i 0 - code "0")) (drop (i + 1) t)
  unfolding decimal
  decimal_next n = rw (from_here t i h)

module _ (t : Bytes) (i : ℕ) (h : length t ≤ i) where
  pub decimal_past : (n : ℕ) → decimal n (drop i t) ≡ n
  unfolding decimal
  decimal_past n = rw (drop_of_length-le t h)

pub decimal_grows : (t : Bytes) (n : ℕ) → n ≤ decimal n t
unfolding decimal
decimal_grows [] n = omega arith
decimal_grows (b ∷ t) n = omega (arith, decimal_grows t (n * 10 + (b - code "0")))

-- ---- the letter

-- the exponent begins behind the first letter, if there is one
letter_place : (t : Bytes) → signed_exponent (drop (position_or_len is_e t + 1) t) ≡ exponent t
unfolding signed_exponent exponent
letter_place [] = refl
letter_place (b ∷ t) = go (is_e b) refl (letter_place t)
  where
    go : (e : Bool) → is_e b ≡ e → signed_exponent (drop (position_or_len is_e t + 1) t) ≡ exponent t
        → signed_exponent (drop (position_or_len is_e (b ∷ t) + 1) (b ∷ t)) ≡ exponent (b ∷ t)
    go true e ih = rw e refl
    go false e ih = let next : 1 + position_or_len is_e t + 1 ≡ suc (position_or_len is_e t + 1) = omega arith in rw (e, next) ih

module _ (t : Bytes) where
  pub letter_found : (k : ℕ) → position is_e t ≡ Some k → signed_exponent (take (length t - (k + 1)) (drop (k + 1) t)) ≡ exponent t
  letter_found k e = rw (rest (k + 1) t, place_found is_e t k e) (letter_place t)

  pub letter_missing : position is_e t ≡ None → signed_exponent [] ≡ exponent t
  letter_missing e =
      let past : drop (position_or_len is_e t + 1) t ≡ [] = drop_of_length-le t (omega (arith, place_missing is_e t e)) in
      rw past at (letter_place t)

-- ---- the sign of an exponent

-- whether a byte stands in front, as the code asks it of the first one
unfoldable pub begins : ℕ → Bytes → Bool
begins n [] = false
begins n (b ∷ t) = eqb b n

pub begins_first : (n : ℕ) (t : Bytes) (first : Option (Bor ℕ)) (y : Bor ℕ) → y.now ≡ n → option_copied first ≡ slice_get t 0
    → option_eq (λ x y. nat_eq x.now y.now) first (Some y) ≡ begins n t
unfolding begins
begins_first n [] None y e f = refl
begins_first n [] (Some x) y e f = absurd (cc)
begins_first n (b ∷ t) None y e f = absurd (cc)
begins_first n (b ∷ t) (Some x) y e f = let same : x.now ≡ b = cc in rw (same, e) refl

pub negative_begins : (t : Bytes) → begins (code "-") t ≡ is_negative t
unfolding begins is_negative
negative_begins [] = refl
negative_begins (b ∷ t) = refl

-- the size is what is written behind a sign, or all of it
module _ (b : ℕ) (t : Bytes) where
  pub size_signed : (s : Bytes) → s ≡ b ∷ t → (eqb b (code "-") || eqb b (code "+")) ≡ true → decimal 0 t ≡ nat_abs (signed_exponent s)
  unfolding signed_exponent
  size_signed s is h = rw is (go (eqb b (code "-")) (eqb b (code "+")) h)
    where
      go : (minus plus : Bool) → (minus || plus) ≡ true
          → decimal 0 t ≡ nat_abs (if minus then neg_ℤ (pos (decimal 0 t)) else if plus then pos (decimal 0 t) else pos (decimal 0 (b ∷ t)))
      go true plus h = sym (negated_size (decimal 0 t))
      go false true h = refl
      go false false h = absurd (true≢false (sym h))

  pub size_unsigned : (s : Bytes) → s ≡ b ∷ t → (eqb b (code "-") || eqb b (code "+")) ≡ false → decimal 0 s ≡ nat_abs (signed_exponent s)
  unfolding signed_exponent
  size_unsigned s is h = rw is (go (eqb b (code "-")) (eqb b (code "+")) h)
    where
      go : (minus plus : Bool) → (minus || plus) ≡ false → decimal 0 (b ∷ t)
          ≡ nat_abs (if minus then neg_ℤ (pos (decimal 0 t)) else if plus then pos (decimal 0 t) else pos (decimal 0 (b ∷ t)))
      go true plus h = absurd (true≢false h)
      go false true h = absurd (true≢false h)
      go false false h = refl

pub size_none : (t : Bytes) → length t ≡ 0 → decimal 0 t ≡ nat_abs (signed_exponent t)
unfolding decimal signed_exponent
size_none [] h = refl
size_none (b ∷ t) h = absurd (omega arith)

-- the sign and the size make the exponent
pub signed_size : (t : Bytes) → (if is_negative t then neg_ℤ (pos (nat_abs (signed_exponent t))) else pos (nat_abs (signed_exponent t))) ≡ signed_exponent t
unfolding is_negative signed_exponent
signed_size [] = refl
signed_size (b ∷ t) = go (eqb b (code "-")) (eqb b (code "+"))
  where
    e : Bool → Bool → ℤ
    e minus plus = if minus then neg_ℤ (pos (decimal 0 t)) else if plus then pos (decimal 0 t) else pos (decimal 0 (b ∷ t))

    go : (minus plus : Bool) → (if minus then neg_ℤ (pos (nat_abs (e minus plus))) else pos (nat_abs (e minus plus))) ≡ e minus plus
    go true plus = ap (λ n. neg_ℤ (pos n)) (negated_size (decimal 0 t))
    go false true = refl
    go false false = refl

-- an integer that passes the limit at a digit
pub decimal_large : (t : Bytes) (i : ℕ) → i < length t → (n d v : ℕ) → d ≡ get_or t i 0 - code "0" → max_exponent < n * 10 + d → decimal n (drop i t) ≡ v →
    max_exponent + 1 ≡ min v (max_exponent + 1)
decimal_large t i h n d v e l w =
    sym (min-eq_right (omega (arith, decimal_next t i h n, decimal_grows (drop (i + 1) t) (n * 10 + (get_or t i 0 - code "0")))))

pub decimal_small : (n v : ℕ) → n ≤ max_exponent → n ≡ v → n ≡ min v (max_exponent + 1)
decimal_small n v h e = e ∙ sym (min-eq_left (omega arith))
