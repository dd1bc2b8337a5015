-- A token as an index: what its first character tells, what each further digit does, and which element it names.
use Rattle.std.specs.Prelude.{if◌then◌else◌}
use mathlib.Core.Path.{◌≡◌, refl, sym, ap, ◌∙◌}
use mathlib.Core.Bool.{Bool, true, false}
use mathlib.Core.List.{[], ◌∷◌}
use Prim.Native.Nat.{ℕ, suc, ◌+◌, ◌-◌, ◌*◌, ◌<◌, ◌≤◌}
use Prim.Native.Char.{code}
use native.Mathlib.Omega.{arith}
use lib.Dec.{ltb}
use borrow.Author.Tests.{ne_eqb, le-ltb, ltb-true, ltb-false}
use Rattle.spec.specs.Outcome.{ok, refused}
use Rattle.spec.specs.Refusal.{location_missing, no_index}
use Rattle.spec.specs.Bytes.{Text, ascii, within}
use Rattle.spec.specs.Numbers.{is_digit}
use Rattle.spec.specs.Worth.{decimal}
use Rattle.spec.specs.Value.{same_text}
use Rattle.spec.specs.Pointer.{is_index, is_dash, all_digits, element_below}
use Rattle.lexer.proofs.Tests.{between-within, below_within, above_within}
use Rattle.pointer.specs.declared.answers.Index.{Index}
use Rattle.pointer.specs.Index.{index_limit, index_at, index_of, element_at, insertion_at, digits_after, capped, if_last}

-- ---- digits

decimal_grows : (n : ℕ) (t : Text) → n ≤ decimal n t
unfolding decimal
decimal_grows n [] = omega arith
decimal_grows n (c ∷ t) = omega (arith, decimal_grows (n * 10 + (c - 48)) t)

index_beyond : (n : ℕ) → index_limit ≤ n → index_at n ≡ Index.Beyond
unfolding index_at
index_beyond n h = rw (le-ltb n index_limit h)

pub digits_end : (n : ℕ) → digits_after n [] ≡ index_at n
unfolding digits_after all_digits decimal
digits_end n = refl

pub digits_more : (n c : ℕ) (t : Text) → code "0" ≤ c → c ≤ code "9" → digits_after n (c ∷ t) ≡ digits_after (n * 10 + (c - code "0")) t
unfolding digits_after all_digits decimal is_digit
digits_more n c t l h = rw (between-within (code "0") (code "9") c l h)

pub digits_below : (n c : ℕ) (t : Text) → c < code "0" → digits_after n (c ∷ t) ≡ Index.Not
unfolding digits_after all_digits is_digit
digits_below n c t h = rw (below_within (code "0") (code "9") c h)

pub digits_above : (n c : ℕ) (t : Text) → code "9" < c → digits_after n (c ∷ t) ≡ Index.Not
unfolding digits_after all_digits is_digit
digits_above n c t h = rw (above_within (code "0") (code "9") c h)

-- from the limit on, how large the number is makes no difference
digits_beyond : (m n : ℕ) (t : Text) → index_limit ≤ m → index_limit ≤ n → digits_after m t ≡ digits_after n t
unfolding digits_after
digits_beyond m n t h i =
    let p = decimal_grows m t in
    let q = decimal_grows n t in
    ap (λ k. if all_digits t then k else Index.Not) (index_beyond (decimal m t) (omega arith) ∙ sym (index_beyond (decimal n t) (omega arith)))

pub capped_limit : (n : ℕ) → capped n ≤ index_limit
unfolding capped
capped_limit n = go (ltb n index_limit) refl
  where
    go : (b : Bool) → ltb n index_limit ≡ b → (if b then n else index_limit) ≤ index_limit
    go true e = let l = ltb-true n index_limit e in omega arith
    go false e = omega arith

pub digits-capped : (n : ℕ) (t : Text) → digits_after (capped n) t ≡ digits_after n t
unfolding capped
digits-capped n t = go (ltb n index_limit) refl
  where
    go : (b : Bool) → ltb n index_limit ≡ b → digits_after (if b then n else index_limit) t ≡ digits_after n t
    go true e = refl
    go false e = digits_beyond index_limit n t (omega arith) (ltb-false n index_limit e)

-- one more digit
pub digits_next : (n : ℕ) {c r : ℕ} {t u : Text} {whole : Index} → t ≡ c ∷ u → code "0" ≤ c → c ≤ code "9" → r ≡ capped (n * 10 + (c - code "0")) →
    digits_after n t ≡ whole → digits_after r u ≡ whole
digits_next n {c} {r} {t} {u} e l h f w =
    ap (λ m. digits_after m u) f ∙ digits-capped (n * 10 + (c - code "0")) u ∙ sym (ap (digits_after n) e ∙ digits_more n c u l h) ∙ w

-- ---- the first character

pub index_none : index_of [] ≡ Index.Not
unfolding index_of is_dash is_index same_text ascii
index_none = refl

pub index_dash : (c : ℕ) (t : Text) → c ≡ code "-" → index_of (c ∷ t) ≡ if_last t Index.Dash
unfolding index_of is_dash is_index same_text ascii within if_last
index_dash c [] h = rw h
index_dash c (d ∷ t) h = rw h

pub index_zero : (c : ℕ) (t : Text) → c ≡ code "0" → index_of (c ∷ t) ≡ if_last t (Index.At 0)
unfolding index_of is_dash is_index is_digit same_text ascii within decimal index_at if_last
index_zero c [] h = rw h
index_zero c (d ∷ t) h = rw h

-- a token that does not begin with `-`
no_dash : (c : ℕ) (t : Text) → (c ≡ code "-" → ⊥) → is_dash (c ∷ t) ≡ false
unfolding is_dash same_text ascii
no_dash c t h = rw (ne_eqb c (code "-") h)

decimal-first : (c : ℕ) (t : Text) → decimal 0 (c ∷ t) ≡ decimal (c - code "0") t
unfolding decimal
decimal-first c t = let e : 0 * 10 + (c - code "0") ≡ c - code "0" = omega arith in ap (λ n. decimal n t) e

pub index_digits : (c : ℕ) (t : Text) → code "1" ≤ c → c ≤ code "9" → index_of (c ∷ t) ≡ digits_after (c - code "0") t
unfolding index_of is_index is_digit digits_after all_digits
index_digits c [] l h = rw (no_dash c [] (λ e. omega arith), between-within (code "0") (code "9") c (omega arith) h, decimal-first c [])
index_digits c (d ∷ t) l h = rw (no_dash c (d ∷ t) (λ e. omega arith), between-within (code "1") (code "9") c l h, decimal-first c (d ∷ t))

pub index_below : (c : ℕ) (t : Text) → (c ≡ code "-" → ⊥) → c < code "0" → index_of (c ∷ t) ≡ Index.Not
unfolding index_of is_index is_digit
index_below c [] d h = rw (no_dash c [] d, below_within (code "0") (code "9") c h)
index_below c (e ∷ t) d h = rw (no_dash c (e ∷ t) d, below_within (code "1") (code "9") c (omega arith))

pub index_above : (c : ℕ) (t : Text) → code "9" < c → index_of (c ∷ t) ≡ Index.Not
unfolding index_of is_index is_digit
index_above c [] h = rw (no_dash c [] (λ e. omega arith), above_within (code "0") (code "9") c h)
index_above c (e ∷ t) h = rw (no_dash c (e ∷ t) (λ e. omega arith), above_within (code "1") (code "9") c h)

-- ---- the element that is named

element_at_lem : (elements n : ℕ) → elements ≤ index_limit → element_at elements (index_at n) ≡ (if ltb n elements then ok n else refused location_missing 0)
unfolding element_at index_at
element_at_lem elements n h = go (ltb n index_limit) refl
  where
    go : (b : Bool) → ltb n index_limit ≡ b
        → element_at elements (if b then Index.At n else Index.Beyond) ≡ (if ltb n elements then ok n else refused location_missing 0)
    go true e = refl
    go false e = let l = ltb-false n index_limit e in rw (le-ltb n elements (omega arith))

pub element_below_lem : (elements : ℕ) (t : Text) → elements ≤ index_limit → element_below elements t ≡ element_at elements (index_of t)
unfolding element_below index_of element_at
element_below_lem elements t h = go (is_dash t) (is_index t)
  where
    go : (dash index : Bool) →
        (if dash then refused location_missing 0 else if index
        then (if ltb (decimal 0 t) elements then ok (decimal 0 t) else refused location_missing 0) else refused no_index 0)
        ≡ element_at elements (if dash then Index.Dash else if index then index_at (decimal 0 t) else Index.Not)
    go true index = refl
    go false true = sym (element_at_lem elements (decimal 0 t) h)
    go false false = refl

insertion_at_lem : (elements n : ℕ) → element_at (suc elements) (index_at n) ≡ insertion_at elements (index_at n)
unfolding index_at element_at insertion_at
insertion_at_lem elements n = go (ltb n index_limit)
  where
    go : (b : Bool) → element_at (suc elements) (if b then Index.At n else Index.Beyond) ≡ insertion_at elements (if b then Index.At n else Index.Beyond)
    go true = refl
    go false = refl

-- where an element is added: `-` is behind the last
pub insertion : (elements : ℕ) (t : Text) → elements < index_limit →
    (if is_dash t then ok elements else element_below (suc elements) t) ≡ insertion_at elements (index_of t)
unfolding element_below index_of insertion_at
insertion elements t h = go (is_dash t) (is_index t)
  where
    go : (dash index : Bool) →
        (if dash then ok elements else
        if dash then refused location_missing 0 else if index
        then (if ltb (decimal 0 t) (suc elements) then ok (decimal 0 t) else refused location_missing 0) else refused no_index 0)
        ≡ insertion_at elements (if dash then Index.Dash else if index then index_at (decimal 0 t) else Index.Not)
    go true index = refl
    go false true = sym (element_at_lem (suc elements) (decimal 0 t) (omega arith)) ∙ insertion_at_lem elements (decimal 0 t)
    go false false = refl
