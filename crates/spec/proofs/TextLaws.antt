-- Texts by their tests: two that test the same are equal, and two index tokens of one value are one token.
use mathlib.Core.Path.{◌≡◌, refl, ap, ap₂, sym, ◌∙◌}
use mathlib.Core.Bool.{Bool, true, false, ◌&&◌, true≢false, and-eq-true_iff}
use mathlib.Core.List.{[], ◌∷◌}
use Prim.Native.Nat.{ℕ, ◌+◌, ◌-◌, ◌*◌, ◌<◌, ◌≤◌}
use native.Mathlib.Omega.{arith}
use native.Mathlib.Decide.{ℕ_discrete, dec_lt}
use lib.ListN.{length}
use lib.Dec.{eqb, leb}
use lib.Pointwise.{pointwise}
use borrow.Author.Tests.{eqb-true, leb-true, eq-eqb}
use Rattle.spec.specs.Bytes.{Text, within}
use Rattle.spec.specs.Numbers.{is_digit}
use Rattle.spec.specs.Worth.{decimal}
use Rattle.spec.specs.Value.{same_text}
use Rattle.spec.specs.Pointer.{is_index, all_digits}

pub both_true : (a b : Bool) → (a && b) ≡ true → (a ≡ true) × (b ≡ true)
both_true a b h = (and-eq-true_iff a b).0 h

-- the library's comparison of two lists is the definitions' of two texts
pub compared : (s t : Text) → pointwise eqb s t ≡ same_text s t
unfolding same_text
compared [] [] = refl
compared [] (b ∷ t) = refl
compared (a ∷ s) [] = refl
compared (a ∷ s) (b ∷ t) = rw (compared s t)

pub same_text_true : (s t : Text) → same_text s t ≡ true → s ≡ t
unfolding same_text
same_text_true [] [] h = refl
same_text_true [] (b ∷ t) h = cc
same_text_true (a ∷ s) [] h = cc
same_text_true (a ∷ s) (b ∷ t) h =
    let q = both_true (eqb a b) (same_text s t) h in
    ap₂ ◌∷◌ (eqb-true a b q.0) (same_text_true s t q.1)

pub same_text_refl : (s : Text) → same_text s s ≡ true
unfolding same_text
same_text_refl [] = refl
same_text_refl (a ∷ s) = rw (eq-eqb a a refl, same_text_refl s)

pub same_text_false : (s t : Text) → same_text s t ≡ false → s ≡ t → ⊥
same_text_false s t h e = true≢false (sym (same_text_refl s) ∙ ap (same_text s) e ∙ h)

pub same_text-apart : (s t : Text) → (s ≡ t → ⊥) → same_text s t ≡ false
same_text-apart s t n = go (same_text s t) refl
  where
    go : (b : Bool) → same_text s t ≡ b → same_text s t ≡ false
    go true h = absurd (n (same_text_true s t h))
    go false h = h

digit_bounds : (c : ℕ) → is_digit c ≡ true → (48 ≤ c) × (c ≤ 57)
unfolding is_digit within
digit_bounds c h =
    let q = both_true (leb 48 c) (leb c 57) h in
    (leb-true 48 c q.0, leb-true c 57 q.1)

-- a decimal is at least what its first digits are worth
decimal_grows : (n : ℕ) (t : Text) → n ≤ decimal n t
unfolding decimal
decimal_grows n [] = omega arith
decimal_grows n (c ∷ t) = omega (arith, decimal_grows (n * 10 + (c - 48)) t)

-- of two decimals the one with the smaller beginning and no more digits after it is the smaller
decimal_less : (m n : ℕ) (s t : Text) → all_digits s ≡ true → length s ≤ length t → m < n → decimal m s < decimal n t
unfolding decimal all_digits
decimal_less m n [] t d l h = omega (arith, decimal_grows n t)
decimal_less m n (b ∷ s) [] d l h = absurd (omega arith)
decimal_less m n (b ∷ s) (c ∷ t) d l h =
    let q = both_true (is_digit b) (all_digits s) d in
    let r = digit_bounds b q.0 in
    decimal_less (m * 10 + (b - 48)) (n * 10 + (c - 48)) s t q.1 (omega arith) (omega arith)

-- with as many digits after equal values, the beginnings and the digits are equal
decimal_same : (m n : ℕ) (s t : Text) → all_digits s ≡ true → all_digits t ≡ true → length s ≡ length t → decimal m s ≡ decimal n t →
    (m ≡ n) × (s ≡ t)
unfolding decimal all_digits
decimal_same m n [] [] d e l h = (h, refl)
decimal_same m n [] (c ∷ t) d e l h = absurd (omega arith)
decimal_same m n (b ∷ s) [] d e l h = absurd (omega arith)
decimal_same m n (b ∷ s) (c ∷ t) d e l h =
    let q = both_true (is_digit b) (all_digits s) d in
    let r = both_true (is_digit c) (all_digits t) e in
    let b-digit = digit_bounds b q.0 in
    let c-digit = digit_bounds c r.0 in
    let ih = decimal_same (m * 10 + (b - 48)) (n * 10 + (c - 48)) s t q.1 r.1 (omega arith) h in
    let b≡c : b ≡ c = omega arith in
    (omega arith, ap₂ ◌∷◌ b≡c ih.1)

-- an index token by its first digit and the others: where there are others, the first is not 0
index_parts : (c : ℕ) (s : Text) → is_index (c ∷ s) ≡ true → (48 ≤ c) × (c ≤ 57) × (all_digits s ≡ true) × (0 < length s → 49 ≤ c)
unfolding within is_digit is_index all_digits
index_parts c [] h = let q = digit_bounds c h in (q.0, q.1, refl, λ l. omega arith)
index_parts c (d ∷ s) h =
    let q = both_true (within 49 57 c) (is_digit d && all_digits s) h in
    let r = both_true (leb 49 c) (leb c 57) q.0 in
    let low = leb-true 49 c r.0 in
    let high = leb-true c 57 r.1 in
    (omega arith, high, q.1, λ l. low)

-- the longer of two index tokens has the greater value
index_less : (b : ℕ) (s : Text) (c : ℕ) (t : Text) → is_index (b ∷ s) ≡ true → is_index (c ∷ t) ≡ true → length s < length t →
    decimal 0 (b ∷ s) < decimal 0 (c ∷ t)
unfolding decimal
index_less b s c [] h i l = absurd (omega arith)
index_less b s c (d ∷ t) h i l =
    let p = index_parts b s h in
    let leading = (index_parts c (d ∷ t) i).3 (omega arith) in
    decimal_less (0 * 10 + (b - 48)) ((0 * 10 + (c - 48)) * 10 + (d - 48)) s t p.2 (omega arith) (omega arith)

pub index_injective : (s t : Text) → is_index s ≡ true → is_index t ≡ true → decimal 0 s ≡ decimal 0 t → s ≡ t
unfolding is_index decimal
index_injective [] t h i e = cc
index_injective (b ∷ s) [] h i e = cc
index_injective (b ∷ s) (c ∷ t) h i e = go (ℕ_discrete (length s) (length t)) (dec_lt (length s) (length t))
  where
    go : Dec (length s ≡ length t) → Dec (length s < length t) → b ∷ s ≡ c ∷ t
    go (yes l) d =
        let p = index_parts b s h in
        let q = index_parts c t i in
        let r = decimal_same (0 * 10 + (b - 48)) (0 * 10 + (c - 48)) s t p.2 q.2 l e in
        let b≡c : b ≡ c = omega arith in
        ap₂ ◌∷◌ b≡c r.1
    go (no n) (yes l) = absurd (omega (arith, index_less b s c t h i l))
    go (no n) (no m) = absurd (omega (arith, index_less c t b s i h (omega arith)))
