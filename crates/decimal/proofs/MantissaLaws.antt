-- Laws of a number's digits, for the loops that go over its text byte by byte.
use Rattle.std.specs.Prelude.{Some, None, cond, not, ◌||◌, nat_lt, unwrap_or, filter, count_by, if◌then◌else◌}
use Rattle.std.specs.List.{position, position_or_len, take_while}
use Rattle.std.proofs.lemmas.List.Sums.{take_while-cons, length-filter}
use Prim.Native.Nat.{ℕ, suc, ◌+◌, ◌-◌, ◌≤◌, ◌<◌}
use Prim.Native.Char.{code}
use mathlib.Core.Path.{◌≡◌, refl, sym, ◌∙◌, ap}
use mathlib.Core.List.{[], ◌∷◌, ◌++◌, append-nil, reverse-append, reverse-reverse}
use mathlib.Core.Bool.{Bool, true, false, ◌&&◌, true≢false}
use native.Mathlib.Numerals.{add-one}
use native.Mathlib.Omega.{arith}
use native.Mathlib.Decide.{dec_lt}
use borrow.Author.Tests.{eq-eqb, ne_eqb, eqb-true, leb-true, ltb-false}
use lib.ListN.{length, get_or, take, drop, length-append, length-drop, drop_of_length-le}
use lib.Seq.{drop-cons, append_snoc, take_all}
use lib.Dec.{eqb, leb}
use Rattle.spec.specs.Bytes.{Bytes, within}
use Rattle.spec.specs.Numbers.{is_digit, is_e}
use Rattle.spec.specs.Worth.{mantissa, fraction_digits, drop_zeros, trimmed}
use Rattle.spec.specs.Value.{same_text}
use Rattle.decimal.specs.Normal.{is_nonzero_digit, first_digit}

-- what the definition gives, from what a function ensures and what it answered
pub told : {A : Type 0} {r d v : A} → r ≡ d → r ≡ v → d ≡ v
told e t = sym e ∙ t

pub within_bounds : (low high n : ℕ) → within low high n ≡ true → (low ≤ n) × (n ≤ high)
unfolding within
within_bounds low high n t = go (leb low n) (leb n high) refl refl t
  where
    go : (a b : Bool) → leb low n ≡ a → leb n high ≡ b → (a && b) ≡ true → (low ≤ n) × (n ≤ high)
    go true true p q e = (leb-true low n p, leb-true n high q)
    go true false p q e = absurd (true≢false (sym e))
    go false b p q e = absurd (true≢false (sym e))

-- ---- places

-- the text from a place on begins with the byte there
pub from_here : (t : Bytes) (i : ℕ) → i < length t → drop i t ≡ get_or t i 0 ∷ drop (i + 1) t
from_here t i h = rw (add-one, drop-cons t i 0)

module _ (t : Bytes) (i : ℕ) (h : i < length t) where
  pub mantissa_ends : is_e (get_or t i 0) ≡ true → mantissa (drop i t) ≡ []
  unfolding mantissa
  mantissa_ends e = rw (from_here t i h, e)

  module _ (e : is_e (get_or t i 0) ≡ false) where
    pub mantissa-digit : is_digit (get_or t i 0) ≡ true → mantissa (drop i t) ≡ get_or t i 0 ∷ mantissa (drop (i + 1) t)
    unfolding mantissa
    mantissa-digit d = rw (from_here t i h, e, d)

    pub mantissa-other : is_digit (get_or t i 0) ≡ false → mantissa (drop i t) ≡ mantissa (drop (i + 1) t)
    unfolding mantissa
    mantissa-other d = rw (from_here t i h, e, d)

module _ (t : Bytes) (i : ℕ) (h : length t ≤ i) where
  pub mantissa_past : mantissa (drop i t) ≡ []
  unfolding mantissa
  mantissa_past = rw (drop_of_length-le t h)

-- a part to the end
pub rest : (n : ℕ) (t : Bytes) → take (length t - n) (drop n t) ≡ drop n t
rest n t = take_all (length t - n) (drop n t) (omega (arith, length-drop n t))

-- the place of the first byte that passes a test, or the end
module _ (p : ℕ → Bool) where
  pub place_most : (t : Bytes) → position_or_len p t ≤ length t
  place_most [] = omega arith
  place_most (b ∷ t) = go (p b) (place_most t)
    where
      go : (passes : Bool) → position_or_len p t ≤ length t → cond (not passes) (1 + position_or_len p t) 0 ≤ suc (length t)
      go true ih = omega arith
      go false ih = omega arith

  module _ (t : Bytes) where
    pub place_found : (k : ℕ) → position p t ≡ Some k → k ≡ position_or_len p t
    place_found k e = go (nat_lt (position_or_len p t) (length t)) e
      where
        go : (b : Bool) → cond b (Some (position_or_len p t)) None ≡ Some k → k ≡ position_or_len p t
        go true e = cc
        go false e = absurd (cc)

    pub place_missing : position p t ≡ None → length t ≤ position_or_len p t
    place_missing e = go (nat_lt (position_or_len p t) (length t)) refl e
      where
        go : (b : Bool) → nat_lt (position_or_len p t) (length t) ≡ b → cond b (Some (position_or_len p t)) None ≡ None → length t ≤ position_or_len p t
        go true l e = absurd (cc)
        go false l e = ltb-false (position_or_len p t) (length t) l

    pub place_or : unwrap_or (position p t) (length t) ≡ position_or_len p t
    place_or = go (nat_lt (position_or_len p t) (length t)) refl
      where
        go : (b : Bool) → nat_lt (position_or_len p t) (length t) ≡ b → unwrap_or (cond b (Some (position_or_len p t)) None) (length t) ≡ position_or_len p t
        go true l = refl
        go false l = omega (arith, ltb-false (position_or_len p t) (length t) l, place_most t)

-- ---- the digits as the code finds them

-- the numbers that pass a test, one more before them
filter_one : (p : ℕ → Bool) (b : ℕ) (t : Bytes) → filter p (b ∷ t) ≡ cond (p b) (b ∷ filter p t) (filter p t)
filter_one p b t = refl

mantissa_found : (t : Bytes) → filter is_digit (take_while (λ b. not (is_e b)) t) ≡ mantissa t
unfolding mantissa
mantissa_found [] = refl
mantissa_found (b ∷ t) = go (is_e b) (is_digit b) refl refl (mantissa_found t)
  where
    go : (e d : Bool) → is_e b ≡ e → is_digit b ≡ d → filter is_digit (take_while (λ b. not (is_e b)) t) ≡ mantissa t
        → filter is_digit (take_while (λ b. not (is_e b)) (b ∷ t)) ≡ (if e then [] else if d then b ∷ mantissa t else mantissa t)
    go true d f g ih = rw (take_while-cons _ b t, f) refl
    go false true f g ih = rw (take_while-cons _ b t, f, filter_one, g) (ap (λ d. b ∷ d) ih)
    go false false f g ih = rw (take_while-cons _ b t, f, filter_one, g) ih

pub mantissa_counted : (t : Bytes) → count_by is_digit (take_while (λ b. not (is_e b)) t) ≡ length (mantissa t)
mantissa_counted t = sym (length-filter is_digit (take_while (λ b. not (is_e b)) t)) ∙ ap length (mantissa_found t)

pub first_found : (t : Bytes) → position_or_len (λ b. is_e b || is_nonzero_digit b) t ≡ first_digit t
unfolding first_digit
first_found [] = refl
first_found (b ∷ t) = go (is_e b) (is_nonzero_digit b) (first_found t)
  where
    go : (e d : Bool) → position_or_len (λ b. is_e b || is_nonzero_digit b) t ≡ first_digit t
        → cond (not (e || d)) (1 + position_or_len (λ b. is_e b || is_nonzero_digit b) t) 0 ≡ (if e then 0 else if d then 0 else suc (first_digit t))
    go true d ih = refl
    go false true ih = refl
    go false false ih = omega arith

pub first_inside : (t : Bytes) → first_digit t ≤ length t
first_inside t = omega (arith, first_found t, place_most (λ b. is_e b || is_nonzero_digit b) t)

-- from the point on, or from where the mantissa ends
fraction_found : (t : Bytes) → length (mantissa (drop (position_or_len (λ b. eqb b (code ".") || is_e b) t) t)) ≡ fraction_digits t
unfolding fraction_digits mantissa is_e is_digit within
fraction_found [] = refl
fraction_found (b ∷ t) = go (eqb b (code ".")) (is_e b) refl refl (fraction_found t)
  where
    p : ℕ → Bool
    p = λ b. eqb b (code ".") || is_e b

    go : (point e : Bool) → eqb b (code ".") ≡ point → is_e b ≡ e → length (mantissa (drop (position_or_len p t) t)) ≡ fraction_digits t
        → length (mantissa (drop (cond (not (point || e)) (1 + position_or_len p t) 0) (b ∷ t))) ≡ (if point then length (mantissa t) else if e then 0 else fraction_digits t)
    go true e f g ih = let dot : b ≡ code "." = eqb-true _ _ f in rw dot refl
    go false true f g ih = rw g refl
    go false false f g ih = let next : 1 + position_or_len p t ≡ suc (position_or_len p t) = omega arith in rw next ih

module _ (t : Bytes) where
  pub point_found : (k : ℕ) → position (λ b. eqb b (code ".") || is_e b) t ≡ Some k → length (mantissa (take (length t - k) (drop k t))) ≡ fraction_digits t
  point_found k e = rw (rest k t, place_found _ t k e) (fraction_found t)

  pub point_missing : position (λ b. eqb b (code ".") || is_e b) t ≡ None → 0 ≡ fraction_digits t
  unfolding mantissa
  point_missing e = rw (drop_of_length-le t (place_missing _ t e)) at (fraction_found t)

-- ---- digits without the zeros at their end, counted from the left

pub trimmed_zero : (d : Bytes) (b : ℕ) → b ≡ code "0" → trimmed (d ++ (b ∷ [])) ≡ trimmed d
unfolding trimmed drop_zeros
trimmed_zero d b z = rw (reverse-append d (b ∷ []), eq-eqb _ _ z)

pub trimmed-digit : (d : Bytes) (b : ℕ) → (b ≡ code "0" → ⊥) → trimmed (d ++ (b ∷ [])) ≡ d ++ (b ∷ [])
unfolding trimmed drop_zeros
trimmed-digit d b z = rw (reverse-append d (b ∷ []), ne_eqb _ _ z) (rw (← reverse-append d (b ∷ [])) (reverse-reverse (d ++ (b ∷ []))))

-- Of the digits `all`, those before `rest` were seen, and `kept` of them are left without the zeros at their end.
pub record Seen (all rest : Bytes) (seen kept : ℕ) : Type 0 where
  pub front : Bytes
  pub splits : front ++ rest ≡ all
  pub many : length front ≡ seen
  pub trims : length (trimmed front) ≡ kept

pub seen_none : (all : Bytes) → Seen all all 0 0
unfolding trimmed drop_zeros
seen_none all = record { front = []; splits = refl; many = refl; trims = refl }

module _ {all rest : Bytes} {b seen kept : ℕ} (s : Seen all (b ∷ rest) seen kept) where
  longer : length (s.front ++ (b ∷ [])) ≡ seen + 1
  longer = length-append s.front (b ∷ []) ∙ ap (λ n. n + 1) s.many

  pub seen_zero : b ≡ code "0" → Seen all rest (seen + 1) kept
  seen_zero z =
      record {
        front = s.front ++ (b ∷ []);
        splits = append_snoc s.front b rest ∙ s.splits;
        many = longer;
        trims = ap length (trimmed_zero s.front b z) ∙ s.trims;
      }

  pub seen_digit : (b ≡ code "0" → ⊥) → Seen all rest (seen + 1) (seen + 1)
  seen_digit z =
      record {
        front = s.front ++ (b ∷ []);
        splits = append_snoc s.front b rest ∙ s.splits;
        many = longer;
        trims = ap length (trimmed-digit s.front b z) ∙ longer;
      }

pub seen_all : {all : Bytes} {seen kept : ℕ} → Seen all [] seen kept → kept ≡ length (trimmed all)
seen_all s = sym s.trims ∙ ap (λ d. length (trimmed d)) (sym (append-nil s.front) ∙ s.splits)

-- ---- digits of two texts, side by side

pub digit_not-e : (b : ℕ) → is_digit b ≡ true → is_e b ≡ false
unfolding is_digit is_e
digit_not-e b d =
    let h = within_bounds (code "0") (code "9") b d in
    rw (ne_eqb b (code "e") (λ e. omega arith), ne_eqb b (code "E") (λ e. omega arith))

-- a text that has digits left from a place on goes on there
pub digits-inside : (t : Bytes) (i : ℕ) → 0 < length (mantissa (drop i t)) → i < length t
digits-inside t i h = go (dec_lt i (length t))
  where
    go : Dec (i < length t) → i < length t
    go (yes l) = l
    go (no l) = let z : length (mantissa (drop i t)) ≡ 0 = ap length (mantissa_past t i (omega arith)) in absurd (omega arith)

-- and what is no digit there is passed over
pub digits-later : (t : Bytes) (i : ℕ) → 0 < length (mantissa (drop i t)) → is_digit (get_or t i 0) ≡ false → mantissa (drop i t) ≡ mantissa (drop (i + 1) t)
digits-later t i h d = go (is_e (get_or t i 0)) refl
  where
    go : (e : Bool) → is_e (get_or t i 0) ≡ e → mantissa (drop i t) ≡ mantissa (drop (i + 1) t)
    go true e = let z : length (mantissa (drop i t)) ≡ 0 = ap length (mantissa_ends t i (digits-inside t i h) e) in absurd (omega arith)
    go false e = mantissa-other t i (digits-inside t i h) e d

-- `left` digits of each text are still to be compared, from a place of each on; `answer` is what they come to.
pub record Comparing (a : Bytes) (i : ℕ) (b : Bytes) (j left : ℕ) (answer : Bool) : Type 0 where
  pub enough : left ≤ length (mantissa (drop i a))
  pub enough-other : left ≤ length (mantissa (drop j b))
  pub comes : same_text (take left (mantissa (drop i a))) (take left (mantissa (drop j b))) ≡ answer

pub compared : {a : Bytes} {i : ℕ} {b : Bytes} {j left : ℕ} {answer : Bool} → Comparing a i b j left answer → left ≡ 0 → true ≡ answer
unfolding same_text
compared s z = rw z at s.comes

module _ {a : Bytes} {i : ℕ} {b : Bytes} {j left : ℕ} {answer : Bool} (s : Comparing a i b j left answer) (some : 0 < left) where
  pub inside : i < length a
  inside = digits-inside a i (omega arith)

  pub inside-other : j < length b
  inside-other = digits-inside b j (omega arith)

  pub passing : is_digit (get_or a i 0) ≡ false → Comparing a (i + 1) b j left answer
  passing d =
      let e = digits-later a i (omega arith) d in
      record { enough = rw e at s.enough; enough-other = s.enough-other; comes = rw e at s.comes }

  pub passing_other : is_digit (get_or b j 0) ≡ false → Comparing a i b (j + 1) left answer
  passing_other d =
      let e = digits-later b j (omega arith) d in
      record { enough = s.enough; enough-other = rw e at s.enough-other; comes = rw e at s.comes }

  module _ (d : is_digit (get_or a i 0) ≡ true) (d-other : is_digit (get_or b j 0) ≡ true) where
    digit : mantissa (drop i a) ≡ get_or a i 0 ∷ mantissa (drop (i + 1) a)
    digit = mantissa-digit a i inside (digit_not-e _ d) d

    digit-other : mantissa (drop j b) ≡ get_or b j 0 ∷ mantissa (drop (j + 1) b)
    digit-other = mantissa-digit b j inside-other (digit_not-e _ d-other) d-other

    comes_digit : (more : ℕ) → left ≡ suc more →
        (eqb (get_or a i 0) (get_or b j 0) && same_text (take more (mantissa (drop (i + 1) a))) (take more (mantissa (drop (j + 1) b)))) ≡ answer
    unfolding same_text
    comes_digit more n = rw (n, digit, digit-other) at s.comes

    pub differing : (get_or a i 0 ≡ get_or b j 0 → ⊥) → false ≡ answer
    differing f = rw (ne_eqb _ _ f) at (comes_digit (left - 1) (omega arith))

    pub agreeing : get_or a i 0 ≡ get_or b j 0 → Comparing a (i + 1) b (j + 1) (left - 1) answer
    agreeing e =
        record {
          enough = omega (arith, ap length digit);
          enough-other = omega (arith, ap length digit-other);
          comes = rw (eq-eqb _ _ e) at (comes_digit (left - 1) (omega arith));
        }
