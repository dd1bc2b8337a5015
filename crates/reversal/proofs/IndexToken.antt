-- A position as a token: it is an index, and names that position.
use mathlib.Core.Path.{◌≡◌, refl, ap, sym, ◌∙◌}
use mathlib.Core.Bool.{Bool, true, false, ◌&&◌, true≢false}
use mathlib.Core.List.{[], ◌∷◌}
use Prim.Native.Nat.{ℕ, zero, suc, ◌+◌, ◌-◌, ◌*◌, ◌/◌, ◌%◌, ◌<◌}
use native.Mathlib.Omega.{arith}
use lib.Dec.{ltb}
use borrow.Author.Tests.{ltb-true, ltb-false, lt-ltb}
use Rattle.spec.specs.Outcome.{ok}
use Rattle.spec.specs.Bytes.{Text, ascii, within}
use Rattle.spec.specs.Numbers.{is_digit}
use Rattle.spec.specs.Worth.{decimal}
use Rattle.spec.specs.Pointer.{is_index, all_digits, is_dash, element_below}
use Rattle.spec.proofs.OutcomeLaws.{refused≢ok}
use Rattle.spec.proofs.TextLaws.{same_text_true}
use Rattle.spec.specs.Proper.{below_surrogates, ScalarValues, nothing, another}
use Rattle.claims.proofs.CharacterScalar.{if_ok}
use Rattle.claims.proofs.Rest.{within_true}
use Rattle.reversal.specs.Undo.{digits_before, index_token}

pub by_test : {C : Type 0} (test : Bool) → (test ≡ true → C) → (test ≡ false → C) → C
by_test true f g = f refl
by_test false f g = g refl

digit : (n : ℕ) → n < 10 → is_digit (48 + n) ≡ true
unfolding is_digit
digit n h = within_true (omega arith) (omega arith)

-- the digits of n before others, by how large n is
module _ (fuel n : ℕ) (after : Text) where
  one-digit : n < 10 → digits_before (suc fuel) n after ≡ (48 + n) ∷ after
  unfolding digits_before
  one-digit h = rw (lt-ltb n 10 h)

  more_digits : ltb n 10 ≡ false → digits_before (suc fuel) n after ≡ digits_before fuel (n / 10) ((48 + n % 10) ∷ after)
  unfolding digits_before
  more_digits h = rw h

digits_decimal : (fuel n : ℕ) (after : Text) → n < fuel → decimal 0 (digits_before fuel n after) ≡ decimal n after
unfolding decimal
digits_decimal zero n after h = absurd (omega arith)
digits_decimal (suc fuel) n after h =
    by_test (ltb n 10)
    (λ q.
    let value : 0 * 10 + (48 + n - 48) ≡ n = omega arith in
    rw (one-digit fuel n after (ltb-true n 10 q)) (ap (λ m. decimal m after) value))
    λ q.
    let large = ltb-false n 10 q in
    let value : n / 10 * 10 + (48 + n % 10 - 48) ≡ n = omega arith in
    rw (more_digits fuel n after q) (digits_decimal fuel (n / 10) ((48 + n % 10) ∷ after) (omega arith) ∙ ap (λ m. decimal m after) value)

digits_index : (fuel n c : ℕ) (after : Text) → n < fuel → 0 < n → (is_digit c && all_digits after) ≡ true → is_index (digits_before fuel n (c ∷ after)) ≡ true
unfolding is_index all_digits
digits_index zero n c after h p d = absurd (omega arith)
digits_index (suc fuel) n c after h p d =
    by_test (ltb n 10)
    (λ q.
    let small = ltb-true n 10 q in
    rw (one-digit fuel n (c ∷ after) small, within_true {low = 49} {high = 57} {n = 48 + n} (omega arith) (omega arith)) d)
    λ q.
    let large = ltb-false n 10 q in
    rw (more_digits fuel n (c ∷ after) q)
    (digits_index fuel (n / 10) (48 + n % 10) (c ∷ after) (omega arith) (omega arith) (rw (digit (n % 10) (omega arith)) d))

index_token_lem : (n : ℕ) → is_index (index_token n) ≡ true
unfolding index_token is_index all_digits
index_token_lem n =
    by_test (ltb n 10)
    (λ q. let small = ltb-true n 10 q in rw (one-digit n n [] small) (digit n small))
    λ q.
    let large = ltb-false n 10 q in
    rw (more_digits n n [] q) (digits_index n (n / 10) (48 + n % 10) [] (omega arith) (omega arith) (rw (digit (n % 10) (omega arith))))

no_dash : (t : Text) → is_index t ≡ true → is_dash t ≡ false
unfolding is_dash is_index ascii is_digit within
no_dash t h = go (is_dash t) refl
  where
    go : (b : Bool) → is_dash t ≡ b → b ≡ false
    go true q = absurd (true≢false (sym h ∙ ap is_index (same_text_true t (ascii "-") q)))
    go false q = refl

-- it names its position, in an array that has one
pub element_at_index : (n limit : ℕ) → n < limit → element_below limit (index_token n) ≡ ok n
unfolding element_below index_token decimal
element_at_index n limit h =
    let i = index_token_lem n in
    let value : decimal 0 (index_token n) ≡ n = digits_decimal (suc n) n [] (omega arith) in
    rw (no_dash (index_token n) i, i, value, lt-ltb n limit h)

digits-characters : (fuel n : ℕ) (after : Text) → ScalarValues after → ScalarValues (digits_before fuel n after)
unfolding digits_before
digits-characters zero n after s = s
digits-characters (suc fuel) n after s =
    by_test (ltb n 10)
    (λ q. let small = ltb-true n 10 q in rw (one-digit fuel n after small) (another {c = 48 + n} (below_surrogates (omega arith)) s))
    λ q. rw (more_digits fuel n after q) (digits-characters fuel (n / 10) _ (another {c = 48 + n % 10} (below_surrogates (omega arith)) s))

pub index_characters : (n : ℕ) → ScalarValues (index_token n)
unfolding index_token
index_characters n = digits-characters (suc n) n [] nothing

-- a position that a token names lies below the limit
pub element_below_lem : (limit : ℕ) (t : Text) (k : ℕ) → element_below limit t ≡ ok k → k < limit
unfolding element_below
element_below_lem limit t k h =
    if_ok (is_dash t) h (λ _ i. absurd (refused≢ok i)) λ _ i.
    if_ok (is_index t) i
    (λ _ j.
    if_ok (ltb (decimal 0 t) limit) j
    (λ less l. let same : decimal 0 t ≡ k = cc in omega (arith, ltb-true (decimal 0 t) limit less)) (λ _ l. absurd (refused≢ok l)))
    (λ _ j. absurd (refused≢ok j))
