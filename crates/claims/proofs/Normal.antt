-- Digits without zeros at either end and a power of ten: each number has one such form, so two numbers are equal where their forms are.
use Rattle.std.specs.Prelude.{if◌then◌else◌}
use mathlib.Core.Path.{◌≡◌, refl, ap, ap₂, sym, ◌∙◌}
use mathlib.Core.Logic.Iff
use mathlib.Core.Logic.{◌↔◌}
use mathlib.Core.Bool.{Bool, true, false, ◌||◌, true≢false}
use mathlib.Core.List.{[], ◌∷◌, ◌++◌, reverse, reverse-cons, reverse-append, reverse-reverse}
use Prim.Native.Nat.{ℕ, zero, suc, ◌+◌, ◌-◌, ◌*◌, ◌^◌, ◌%◌, ◌<◌, ◌≤◌}
use native.Mathlib.Nat.{pow-succ', zero-mul, mul-pos}
use native.Mathlib.Omega.{arith}
use lib.Dec.{eqb, leb, ltb}
use lib.ListN.{length, replicate, length-append, length-replicate}
use lib.IntN.{ℤ, pos, ◌+ℤ◌, ◌-ℤ◌, +ℤ_assoc}
use borrow.Author.Tests.{eqb-true, eqb-false, leb-true, le-leb, lt-ltb}
use Rattle.spec.specs.Bytes.{Bytes, within}
use Rattle.spec.specs.Numbers.{is_digit, is_e}
use Rattle.spec.specs.Worth.{decimal, drop_zeros, trimmed, unless_zero}
use Rattle.spec.specs.Pointer.{all_digits, is_index}
use Rattle.spec.proofs.TextLaws.{both_true, index_injective}
use Rattle.claims.proofs.Valued as Statement
use Rattle.claims.specs.Numbers.{positional, above}
use Rattle.claims.proofs.Valued.{Digit, AllDigits, E}
use Rattle.claims.proofs.Scaling.{base_injective, over, unscaled, ten_positive, scale_twice, over_one_base}

-- Digits, by the tests of the definitions and by the statement's ranges

pub digit_bounds : (c : ℕ) → is_digit c ≡ true → Digit c
unfolding is_digit within
digit_bounds c h = let q = both_true (leb 48 c) (leb c 57) h in (leb-true 48 c q.0, leb-true c 57 q.1)

pub is_digit_lem : {c : ℕ} → Digit c → is_digit c ≡ true
unfolding is_digit within
is_digit_lem {c} d = rw (le-leb 48 c d.0, le-leb c 57 d.1)

pub digits_cons : (c : ℕ) (t : Bytes) → is_digit c ≡ true → all_digits t ≡ true → all_digits (c ∷ t) ≡ true
unfolding all_digits
digits_cons c t h i = rw (h, i)

pub digits_parts : (c : ℕ) (t : Bytes) → all_digits (c ∷ t) ≡ true → (is_digit c ≡ true) × (all_digits t ≡ true)
unfolding all_digits
digits_parts c t h = both_true (is_digit c) (all_digits t) h

pub all_digits_lem : {t : Bytes} → AllDigits t → all_digits t ≡ true
unfolding all_digits
all_digits_lem Statement.none = refl
all_digits_lem (Statement.more {d} {ds} h ds-all) = digits_cons d ds (is_digit_lem h) (all_digits_lem ds-all)

pub digits_all : (t : Bytes) → all_digits t ≡ true → AllDigits t
digits_all [] h = Statement.none
digits_all (c ∷ t) h = let q = digits_parts c t h in Statement.more (digit_bounds c q.0) (digits_all t q.1)

pub is_e_lem : {c : ℕ} → E c → is_e c ≡ true
unfolding is_e
is_e_lem Statement.lower_case = refl
is_e_lem Statement.upper_case = refl

pub e-is : (c : ℕ) → is_e c ≡ true → E c
unfolding is_e
e-is c h = go (eqb c 101) refl (eqb c 69) refl h
  where
    go : (b : Bool) → eqb c 101 ≡ b → (d : Bool) → eqb c 69 ≡ d → (b || d) ≡ true → E c
    go true q d r h = rw (eqb-true c 101 q) Statement.lower_case
    go false q true r h = rw (eqb-true c 69 r) Statement.upper_case
    go false q false r h = absurd (true≢false (sym h))

pub digits_append : (s t : Bytes) → all_digits s ≡ true → all_digits t ≡ true → all_digits (s ++ t) ≡ true
digits_append [] t h i = i
digits_append (c ∷ s) t h i = let q = digits_parts c s h in digits_cons c (s ++ t) q.0 (digits_append s t q.1 i)

digits-reverse : (t : Bytes) → all_digits t ≡ true → all_digits (reverse t) ≡ true
unfolding all_digits
digits-reverse [] h = refl
digits-reverse (c ∷ t) h =
    let q = digits_parts c t h in
    rw (reverse-cons c t) (digits_append (reverse t) (c ∷ []) (digits-reverse t q.1) (digits_cons c [] q.0 refl))

digits-drop_zeros : (t : Bytes) → all_digits t ≡ true → all_digits (drop_zeros t) ≡ true
unfolding drop_zeros
digits-drop_zeros [] h = h
digits-drop_zeros (c ∷ t) h = go (eqb c 48) (digits-drop_zeros t (digits_parts c t h).1)
  where
    go : (b : Bool) → all_digits (drop_zeros t) ≡ true → all_digits (if b then drop_zeros t else c ∷ t) ≡ true
    go true ih = ih
    go false ih = h

-- the integer that digits write, digit by digit and by positions
decimal-positional : (n : ℕ) (t : Bytes) → decimal n t ≡ n * 10 ^ length t + positional t
unfolding decimal positional
decimal-positional n [] = omega arith
decimal-positional n (c ∷ t) = decimal-positional (n * 10 + (c - 48)) t ∙ rw (pow-succ' 10 (length t)) (shift n (c - 48) (10 ^ length t) (positional t))
  where
    shift : (n d p r : ℕ) → (n * 10 + d) * p + r ≡ n * (10 * p) + (d * p + r)
    shift n d p r = omega arith

pub decimal_is_positional : (t : Bytes) → decimal 0 t ≡ positional t
decimal_is_positional t = omega (arith, decimal-positional 0 t)

decimal-append : (n : ℕ) (s t : Bytes) → decimal n (s ++ t) ≡ decimal (decimal n s) t
unfolding decimal
decimal-append n [] t = refl
decimal-append n (c ∷ s) t = decimal-append (n * 10 + (c - 48)) s t

abbrev zeros : ℕ → Bytes
zeros k = replicate k 48

decimal-zeros : (n k : ℕ) → decimal n (zeros k) ≡ n * 10 ^ k
unfolding decimal
decimal-zeros n zero = omega arith
decimal-zeros n (suc k) = decimal-zeros (n * 10 + (48 - 48)) k ∙ rw (pow-succ' 10 k) (shift n (10 ^ k))
  where
    shift : (n p : ℕ) → (n * 10 + 0) * p ≡ n * (10 * p)
    shift n p = omega arith

-- Zeros dropped at the beginning: zeros, and then nothing or a byte that is not a zero

record Dropped (t : Bytes) : Type 0 where
  many : ℕ
  split : t ≡ zeros many ++ drop_zeros t

dropped : (t : Bytes) → Dropped t
unfolding drop_zeros
dropped [] = record { many = 0; split = refl }
dropped (c ∷ t) = go (eqb c 48) refl (dropped t)
  where
    go : (b : Bool) → eqb c 48 ≡ b → Dropped t → Dropped (c ∷ t)
    go true q ih = record { many = suc ih.many; split = rw q (ap₂ ◌∷◌ (eqb-true c 48 q) ih.split) }
    go false q ih = record { many = 0; split = rw q }

data First : Bytes → Type 0 where
  none : First []
  some : (c : ℕ) (t : Bytes) → (c ≡ 48 → ⊥) → First (c ∷ t)

first : (t : Bytes) → First (drop_zeros t)
unfolding drop_zeros
first [] = none
first (c ∷ t) = go (eqb c 48) refl (first t)
  where
    go : (b : Bool) → eqb c 48 ≡ b → First (drop_zeros t) → First (if b then drop_zeros t else c ∷ t)
    go true q ih = ih
    go false q ih = some c t (eqb-false c 48 q)

decimal-drop_zeros : (t : Bytes) → decimal 0 t ≡ decimal 0 (drop_zeros t)
decimal-drop_zeros t =
    let d = dropped t in
    ap (decimal 0) d.split ∙ decimal-append 0 (zeros d.many) (drop_zeros t) ∙ rw (decimal-zeros 0 d.many, zero-mul (10 ^ d.many))

-- Zeros dropped at the end

zeros_snoc : (k : ℕ) → zeros k ++ (48 ∷ []) ≡ zeros (suc k)
zeros_snoc zero = refl
zeros_snoc (suc k) = ap (◌∷◌ 48) (zeros_snoc k)

reverse-zeros : (k : ℕ) → reverse (zeros k) ≡ zeros k
reverse-zeros zero = refl
reverse-zeros (suc k) = reverse-cons 48 (zeros k) ∙ ap (λ t. t ++ (48 ∷ [])) (reverse-zeros k) ∙ zeros_snoc k

-- the last digit of what is left, where there is one, is not 0
last_digit : (t : Bytes) → First t → all_digits t ≡ true → 1 ≤ length (reverse t) → decimal 0 (reverse t) % 10 ≡ 0 → ⊥
unfolding decimal
last_digit _ none d l h = omega arith
last_digit _ (some c t n) d l h =
    let q = digit_bounds c (digits_parts c t d).0 in
    let e = rw (reverse-cons c t, decimal-append 0 (reverse t) (c ∷ [])) at h in
    omega arith

record Trimmed (t s : Bytes) : Type 0 where
  many : ℕ
  split : t ≡ s ++ zeros many
  digits : all_digits s ≡ true
  last : 1 ≤ length s → decimal 0 s % 10 ≡ 0 → ⊥

trim : (t : Bytes) → all_digits t ≡ true → Trimmed t (trimmed t)
unfolding trimmed
trim t h =
    let d = dropped (reverse t) in
    let ds = digits-drop_zeros (reverse t) (digits-reverse t h) in
    record {
      many = d.many;
      split = sym (reverse-reverse t) ∙ ap reverse d.split ∙ reverse-append (zeros d.many) (drop_zeros (reverse t)) ∙ rw (reverse-zeros d.many);
      digits = digits-reverse _ ds;
      last = last_digit (drop_zeros (reverse t)) (first (reverse t)) ds;
    }

-- The normal form of an integer times a power of ten

-- with digits, the last of which is not 0, and a power raised by the zeros that were dropped
pub record Nonzero (n : ℕ) (e : ℤ) (s : Bytes) (p : ℤ) : Type 0 where
  pub many : ℕ
  pub index : is_index s ≡ true
  pub last : decimal 0 s % 10 ≡ 0 → ⊥
  pub value : n ≡ decimal 0 s * 10 ^ many
  pub raised : p ≡ e +ℤ pos many

pub data Normal (n : ℕ) (e : ℤ) : Bytes → ℤ → Type 0 where
  is_zero : n ≡ 0 → Normal n e [] (pos 0)
  is_nonzero : {s : Bytes} {p : ℤ} → Nonzero n e s p → Normal n e s p

index_of : (c : ℕ) (t : Bytes) → (c ≡ 48 → ⊥) → all_digits (c ∷ t) ≡ true → is_index (c ∷ t) ≡ true
unfolding is_index all_digits within
index_of c [] n h = (digits_parts c [] h).0
index_of c (d ∷ t) n h =
    let q = digits_parts c (d ∷ t) h in
    let b = digit_bounds c q.0 in
    rw (le-leb 49 c (omega arith), le-leb c 57 b.1) q.1

zeros_many : (t s : Bytes) (k : ℕ) → t ≡ s ++ zeros k → k ≡ length t - length s
zeros_many t s k h = let l = ap length h ∙ length-append s (zeros k) in omega (arith, length-replicate {A = ℕ} k 48)

value_of_lem : (t s : Bytes) (k : ℕ) → t ≡ s ++ zeros k → decimal 0 t ≡ decimal 0 s * 10 ^ k
value_of_lem t s k h = ap (decimal 0) h ∙ decimal-append 0 s (zeros k) ∙ decimal-zeros (decimal 0 s) k

-- the digits c ∷ t, whose first is not 0, without the zeros at their end
normal_trimmed : (c : ℕ) (t s : Bytes) (x : ℤ) (f : ℕ) → (c ≡ 48 → ⊥) → Trimmed (c ∷ t) s →
    Normal (decimal 0 (c ∷ t)) (x -ℤ pos f) s (unless_zero s ((x -ℤ pos f) +ℤ pos (length (c ∷ t) - length s)))
unfolding unless_zero
normal_trimmed c t [] x f n r = absurd (go r.many r.split)
  where
    go : (k : ℕ) → c ∷ t ≡ zeros k → ⊥
    go zero h = let z : ◌≡◌ {A = ℕ} 0 1 = cc in omega arith
    go (suc k) h = n (cc)
normal_trimmed c t (d ∷ s) x f n r =
    let same : c ≡ d = cc r.split in
    let many : r.many ≡ length (c ∷ t) - length (d ∷ s) = zeros_many (c ∷ t) (d ∷ s) r.many r.split in
    is_nonzero
    (record {
      many = length (c ∷ t) - length (d ∷ s);
      index = index_of d s (λ h. n (same ∙ h)) r.digits;
      last = r.last (omega arith);
      value = rw (← many) (value_of_lem (c ∷ t) (d ∷ s) r.many r.split);
      raised = refl;
    })

pub normal : (ds : Bytes) (x : ℤ) (f : ℕ) → all_digits ds ≡ true →
    Normal (decimal 0 ds) (x -ℤ pos f) (trimmed (drop_zeros ds))
    (unless_zero (trimmed (drop_zeros ds)) ((x -ℤ pos f) +ℤ pos (length (drop_zeros ds) - length (trimmed (drop_zeros ds)))))
unfolding decimal trimmed drop_zeros unless_zero
normal ds x f h = rw (decimal-drop_zeros ds) (go (drop_zeros ds) (first ds) (digits-drop_zeros ds h))
  where
    go : (t : Bytes) → First t → all_digits t ≡ true →
        Normal (decimal 0 t) (x -ℤ pos f) (trimmed t) (unless_zero (trimmed t) ((x -ℤ pos f) +ℤ pos (length t - length (trimmed t))))
    go _ none h = is_zero refl
    go _ (some c t n) h = normal_trimmed c t (trimmed (c ∷ t)) x f n (trim (c ∷ t) h)

-- Two normal forms are equal exactly where the numbers are.

-- digits whose last is not 0 do not write zero
positive : (n t k : ℕ) → (t % 10 ≡ 0 → ⊥) → n ≡ t * 10 ^ k → 0 < n
positive n t k l v = rw v (mul-pos (go t l) (ten_positive k))
  where
    go : (t : ℕ) → (t % 10 ≡ 0 → ⊥) → 0 < t
    go zero l = absurd (l refl)
    go (suc t) l = omega arith

-- zero does not equal a number that is not zero, however both are scaled
not_zero : (m n t k x y : ℕ) → m ≡ 0 → (t % 10 ≡ 0 → ⊥) → n ≡ t * 10 ^ k → m * 10 ^ x ≡ n * 10 ^ y → ⊥
not_zero m n t k x y g l v h =
    let z : m * 10 ^ x ≡ 0 = rw g (zero-mul (10 ^ x)) in
    let positive-product = mul-pos (positive n t k l v) (ten_positive y) in
    omega arith

index_some : (s : Bytes) → is_index s ≡ true → 0 < length s
unfolding is_index
index_some [] i = absurd (true≢false (sym i))
index_some (c ∷ s) i = omega arith

empty_index : (s : Bytes) → is_index s ≡ true → s ≡ [] → ⊥
empty_index s i h = let l = ap length h in omega (arith, index_some s i)

-- what is scaled twice, on both sides
scaled_both : (m n s t j k a b : ℕ) → m ≡ s * 10 ^ j → n ≡ t * 10 ^ k → (m * 10 ^ a ≡ n * 10 ^ b) ↔ (s * 10 ^ (j + a) ≡ t * 10 ^ (k + b))
scaled_both m n s t j k a b v w = rw (v, w, scale_twice s j a, scale_twice t k b) Iff.rfl

-- a power over a base, raised further
more_over : (g e p : ℤ) (a j : ℕ) → e ≡ g +ℤ pos a → p ≡ e +ℤ pos j → p ≡ g +ℤ pos (j + a)
more_over g e p a j h w =
    let sum : a + j ≡ j + a = omega arith in
    w ∙ ap (λ z. z +ℤ pos j) h ∙ +ℤ_assoc g (pos a) (pos j) ∙ ap (λ n. g +ℤ pos n) sum

-- two forms with digits: the digits and the powers are equal where the numbers are
with_digits : (m n : ℕ) (e f : ℤ) (s t : Bytes) (p q : ℤ) → Nonzero m e s p → Nonzero n f t q →
    ((s ≡ t) × (p ≡ q)) ↔ (m * 10 ^ above e f ≡ n * 10 ^ above f e)
with_digits m n e f s t p q x y =
    let o = over e f in
    let scaled = scaled_both m n (decimal 0 s) (decimal 0 t) x.many y.many o.first o.second x.value y.value in
    let values = Iff.trans (over_one_base m n e f o) scaled in
    let p-is = more_over o.base e p o.first x.many o.first_is x.raised in
    let q-is = more_over o.base f q o.second y.many o.second_is y.raised in (
      λ h.
          let powers = base_injective o.base _ _ (sym p-is ∙ h.1 ∙ q-is) in
          values.1 (ap₂ (λ u z. decimal 0 u * 10 ^ z) h.0 powers),
      λ h.
          let u = unscaled (decimal 0 s) (decimal 0 t) (x.many + o.first) (y.many + o.second) x.last y.last (values.0 h) in
          (index_injective s t x.index y.index u.0, p-is ∙ ap (λ z. o.base +ℤ pos z) u.1 ∙ sym q-is),
    )

pub equal-value : {m n : ℕ} {e f : ℤ} {s t : Bytes} {p q : ℤ} → Normal m e s p → Normal n f t q →
    ((s ≡ t) × (p ≡ q)) ↔ (m * 10 ^ above e f ≡ n * 10 ^ above f e)
equal-value {e = e} {f = f} (is_zero g) (is_zero h) = (λ _. rw (g, h, zero-mul (10 ^ above e f), zero-mul (10 ^ above f e)), λ _. (refl, refl))
equal-value (is_zero g) (is_nonzero {s} y) =
    (λ h. absurd (empty_index s y.index (sym h.0)), λ h. absurd (not_zero _ _ _ y.many _ _ g y.last y.value h))
equal-value (is_nonzero {s} x) (is_zero g) =
    (λ h. absurd (empty_index s x.index h.0), λ h. absurd (not_zero _ _ _ x.many _ _ g x.last x.value (sym h)))
equal-value (is_nonzero x) (is_nonzero y) = with_digits _ _ _ _ _ _ _ _ x y

-- A number is zero, however it is scaled, exactly where its form has no digits.
pub zero_digits : {n : ℕ} {e : ℤ} {s : Bytes} {p : ℤ} (k : ℕ) → Normal n e s p → ltb 0 (n * 10 ^ k) ≡ ltb 0 (length s)
zero_digits k (is_zero g) = rw (g, zero-mul (10 ^ k))
zero_digits {n = n} k (is_nonzero {s} x) =
    let scaled = mul-pos (positive n _ x.many x.last x.value) (ten_positive k) in
    rw (lt-ltb 0 (n * 10 ^ k) (omega arith), lt-ltb 0 (length s) (index_some s x.index))
