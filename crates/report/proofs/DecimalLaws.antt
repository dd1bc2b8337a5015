-- Laws of a number's digits.
use Prim.Native.Nat.{ℕ, zero, suc, ◌+◌, ◌/◌, ◌%◌, ◌^◌, ◌*◌, ◌≤◌, ◌<◌}
use native.Mathlib.Nat.{pow-suc}
use native.Mathlib.Omega.{arith}
use native.Mathlib.Decide.{dec_lt}
use mathlib.Core.Path.{◌≡◌, sym, ap, ◌∙◌}
use mathlib.Core.List.{[], ◌∷◌, ◌++◌}
use lib.ListN.{length, length-append}
use borrow.Author.Tests.{lt-ltb, le-ltb}
use Rattle.report.specs.Line.{digit, in_decimal_from, in_decimal}

-- below 10 there is one digit, otherwise the digits of the tenth part come before the last
module _ (fuel n : ℕ) where
  one_digit : n < 10 → in_decimal_from (suc fuel) n ≡ digit n ∷ []
  unfolding in_decimal_from
  one_digit h = rw (lt-ltb n 10 h)

  more_digits : 10 ≤ n → in_decimal_from (suc fuel) n ≡ in_decimal_from fuel (n / 10) ++ (digit (n % 10) ∷ [])
  unfolding in_decimal_from
  more_digits h = rw (le-ltb n 10 h)

-- more fuel makes no difference
same_digits : (f g n : ℕ) → n < f → n < g → in_decimal_from f n ≡ in_decimal_from g n
same_digits zero g n h k = absurd (omega arith)
same_digits (suc f) zero n h k = absurd (omega arith)
same_digits (suc f) (suc g) n h k = go (dec_lt n 10) (same_digits f g (n / 10))
  where
    go : Dec (n < 10) → (n / 10 < f → n / 10 < g → in_decimal_from f (n / 10) ≡ in_decimal_from g (n / 10)) →
        in_decimal_from (suc f) n ≡ in_decimal_from (suc g) n
    go (yes small) same = one_digit f n small ∙ sym (one_digit g n small)
    go (no large) same =
        let tenth = same (omega arith) (omega arith) in
        more_digits f n (omega arith) ∙ ap (λ ds. ds ++ (digit (n % 10) ∷ [])) tenth ∙ sym (more_digits g n (omega arith))

-- ---- the last digit, behind those of a tenth
pub decimal_small : (n : ℕ) → n < 10 → in_decimal n ≡ (48 + n % 10) ∷ []
unfolding in_decimal digit
decimal_small n h =
    let same : 48 + n ≡ 48 + n % 10 = omega arith in
    one_digit n n h ∙ ap (λ d. d ∷ []) same

pub decimal_large : (n : ℕ) → 10 ≤ n → in_decimal n ≡ in_decimal (n / 10) ++ ((48 + n % 10) ∷ [])
unfolding in_decimal digit
decimal_large n h =
    more_digits n n h ∙ ap (λ ds. ds ++ ((48 + n % 10) ∷ [])) (same_digits n (suc (n / 10)) (n / 10) (omega arith) (omega arith))

-- ---- how many there are
digits_few : (k fuel n : ℕ) → n < 10 ^ suc k → length (in_decimal_from fuel n) ≤ suc k
unfolding in_decimal_from
digits_few k zero n small = omega arith
digits_few zero (suc fuel) n small =
    let below : n < 10 = omega arith in
    rw (one_digit fuel n below) (omega arith)
digits_few (suc k) (suc fuel) n small = go (dec_lt n 10) (digits_few k fuel (n / 10))
  where
    go : Dec (n < 10) → (n / 10 < 10 ^ suc k → length (in_decimal_from fuel (n / 10)) ≤ suc k) → length (in_decimal_from (suc fuel) n) ≤ suc (suc k)
    go (yes h) few = rw (one_digit fuel n h) (omega arith)
    go (no h) few =
        let tens : 10 ^ suc (suc k) ≡ 10 ^ suc k * 10 = pow-suc 10 (suc k) in
        let tenth : n / 10 < 10 ^ suc k = omega arith in
        rw (more_digits fuel n (omega arith), length-append) (omega (arith, few tenth))

pub in_decimal_short : (k n : ℕ) → n < 10 ^ suc k → length (in_decimal n) ≤ suc k
unfolding in_decimal
in_decimal_short k n small = digits_few k (suc n) n small
