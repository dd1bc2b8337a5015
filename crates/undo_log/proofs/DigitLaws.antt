-- The digits of a position: the last one behind those of a tenth of it, and how many there are.
use Prim.Native.Nat.{ℕ, zero, suc, ◌+◌, ◌*◌, ◌/◌, ◌%◌, ◌^◌, ◌≤◌, ◌<◌}
use Rattle.std.proofs.Math.Nat.{pow-zero, pow-suc}
use native.Mathlib.Omega.{arith}
use mathlib.Core.Path.{◌≡◌, refl, sym, ap, ◌∙◌}
use mathlib.Core.Bool.{true, false}
use mathlib.Core.List.{[], ◌∷◌, ◌++◌, append_assoc}
use lib.Dec.{ltb}
use lib.ListN.{length, length-append}
use borrow.Author.Tests.{ltb-true, ltb-false, lt-ltb, le-ltb, le-leb, ne_eqb}
use Rattle.spec.specs.Bytes.{Text}
use Rattle.spec.specs.Write.{utf8, write_character, write_characters}
use Rattle.reversal.specs.Undo.{digits_before, index_token}
use Rattle.reversal.proofs.IndexToken.{by_test}

module _ (fuel n : ℕ) (after : Text) where
  one-digit : ltb n 10 ≡ true → digits_before (suc fuel) n after ≡ (48 + n) ∷ after
  unfolding digits_before
  one-digit h = rw h

  more_digits : ltb n 10 ≡ false → digits_before (suc fuel) n after ≡ digits_before fuel (n / 10) ((48 + n % 10) ∷ after)
  unfolding digits_before
  more_digits h = rw h

-- digits before others are those before nothing, and the others
digits_after_lem : (fuel n : ℕ) (after : Text) → digits_before fuel n after ≡ digits_before fuel n [] ++ after
unfolding digits_before
digits_after_lem zero n after = refl
digits_after_lem (suc fuel) n after =
    by_test (ltb n 10)
    (λ q. one-digit fuel n after q ∙ ap (λ t. t ++ after) (sym (one-digit fuel n [] q)))
    λ q.
    let d : ℕ = 48 + n % 10 in
    more_digits fuel n after q ∙ digits_after_lem fuel (n / 10) (d ∷ after)
    ∙ sym (ap (λ t. t ++ after) (more_digits fuel n [] q ∙ digits_after_lem fuel (n / 10) (d ∷ []))
    ∙ append_assoc (digits_before fuel (n / 10) []) (d ∷ []) after)

-- more fuel makes no difference
same_digits : (f g n : ℕ) (after : Text) → n < f → n < g → digits_before f n after ≡ digits_before g n after
same_digits zero g n after h k = absurd (omega arith)
same_digits (suc f) zero n after h k = absurd (omega arith)
same_digits (suc f) (suc g) n after h k =
    by_test (ltb n 10)
    (λ q. one-digit f n after q ∙ sym (one-digit g n after q))
    λ q.
    let large = ltb-false n 10 q in
    more_digits f n after q ∙ same_digits f g (n / 10) _ (omega arith) (omega arith) ∙ sym (more_digits g n after q)

pub index_small : (n : ℕ) → n < 10 → index_token n ≡ (48 + n % 10) ∷ []
unfolding index_token
index_small n h =
    let same : 48 + n ≡ 48 + n % 10 = omega arith in
    one-digit n n [] (lt-ltb n 10 h) ∙ ap (λ d. d ∷ []) same

pub index_large : (n : ℕ) → 10 ≤ n → index_token n ≡ index_token (n / 10) ++ ((48 + n % 10) ∷ [])
unfolding index_token
index_large n h =
    let d : ℕ = 48 + n % 10 in
    more_digits n n [] (le-ltb n 10 h) ∙ digits_after_lem n (n / 10) (d ∷ [])
    ∙ ap (λ t. t ++ (d ∷ [])) (same_digits n (suc (n / 10)) (n / 10) [] (omega arith) (omega arith))

-- ---- how many there are
pub small_length : (n : ℕ) → n < 10 → length (index_token n) ≡ 1
small_length n h = ap length (index_small n h)

pub large_length : (n : ℕ) → 10 ≤ n → length (index_token n) ≡ length (index_token (n / 10)) + 1
large_length n h = ap length (index_large n h) ∙ length-append (index_token (n / 10)) ((48 + n % 10) ∷ [])

tens : (k : ℕ) → 1 ≤ 10 ^ k
tens zero = omega (arith, pow-zero 10)
tens (suc k) = omega (arith, pow-suc 10 k, tens k)

-- one more than the power of ten that is reached
pub length_by_power : (k n : ℕ) → 10 ^ k ≤ n → n < 10 * 10 ^ k → length (index_token n) ≡ k + 1
length_by_power zero n l h = small_length n (omega (arith, pow-zero 10))
length_by_power (suc k) n l h =
    let power : 10 ^ suc k ≡ 10 ^ k * 10 = pow-suc 10 k in
    let some : 1 ≤ 10 ^ k = tens k in
    let tenth = length_by_power k (n / 10) (omega arith) (omega arith) in
    large_length n (omega arith) ∙ ap (λ m. m + 1) tenth ∙ omega arith

-- ---- digits need no escape
digit-written : (d : ℕ) → d < 10 → write_character (48 + d) ≡ (48 + d) ∷ []
unfolding write_character utf8
digit-written d h =
    rw (ne_eqb (48 + d) 34 (λ e. omega arith), ne_eqb (48 + d) 92 (λ e. omega arith), le-leb 32 (48 + d) (omega arith), lt-ltb (48 + d) 128 (omega arith))

digits-written : (fuel n : ℕ) (after : Text) → write_characters after ≡ after → write_characters (digits_before fuel n after) ≡ digits_before fuel n after
unfolding digits_before write_characters
digits-written zero n after e = e
digits-written (suc fuel) n after e =
    by_test (ltb n 10)
    (λ q. rw (one-digit fuel n after q, digit-written n (ltb-true n 10 q), e))
    λ q.
    rw (more_digits fuel n after q) (digits-written fuel (n / 10) ((48 + n % 10) ∷ after) (rw (digit-written (n % 10) (omega arith), e)))

pub index_written : (n : ℕ) → write_characters (index_token n) ≡ index_token n
unfolding index_token write_characters
index_written n = digits-written (suc n) n [] refl

pub written-append : (s t : Text) → write_characters (s ++ t) ≡ write_characters s ++ write_characters t
unfolding write_characters
written-append [] t = refl
written-append (c ∷ s) t =
    ap (λ u. write_character c ++ u) (written-append s t)
    ∙ sym (append_assoc (write_character c) (write_characters s) (write_characters t))
