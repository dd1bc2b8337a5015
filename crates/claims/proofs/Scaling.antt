-- Integers times powers of ten: comparing them by scaling both to the smaller power, or to any power below both, is the same.
use mathlib.Core.Path.{◌≡◌, refl, ap, ap₂, sym, ◌∙◌}
use mathlib.Core.Logic.Iff
use mathlib.Core.Logic.{◌↔◌}
use mathlib.Core.Bool.{Bool, true, false, cond, ◌&&◌}
use Prim.Native.Nat.{ℕ, zero, suc, ◌+◌, ◌-◌, ◌*◌, ◌^◌, ◌%◌, ◌<◌, ◌≤◌}
use native.Mathlib.Nat.{pow-succ', sub-zero, zero-sub, suc-sub-suc, one-le-pow, zero-add, suc-add, mul_assoc, zero-mul, mul-pos}
use native.Mathlib.Omega.{arith}
use lib.Dec.{ltb}
use lib.IntN.{ℤ, pos, negsuc, neg_ℤ, nat_abs, ◌+ℤ◌, ◌-ℤ◌, ◌*ℤ◌, +ℤ_assoc, +ℤ_comm, +ℤ_idl, +ℤ_idr, +ℤ_invr, neg_ℤ-+ℤ, -ℤ-+ℤ_cancel}
use borrow.Author.Tests.{ltb-true, lt-ltb}
use Rattle.claims.specs.Numbers.{with_sign, natural, above}

-- Integers

natural_sub : (a b : ℕ) → natural (pos a -ℤ pos b) ≡ a - b
unfolding natural
natural_sub a zero = omega arith
natural_sub a (suc b) = go (ltb a (suc b)) refl
  where
    go : (less : Bool) → ltb a (suc b) ≡ less → natural (cond less (negsuc (suc b - suc a)) (pos (a - suc b))) ≡ a - suc b
    go true q = let h = ltb-true a (suc b) q in omega arith
    go false q = refl

-- a common base does not change a difference
cancel_base : (g m n : ℤ) → (g +ℤ m) -ℤ (g +ℤ n) ≡ m -ℤ n
cancel_base g m n =
    ap (λ z. (g +ℤ m) +ℤ z) (neg_ℤ-+ℤ g n) ∙ ap (λ z. z +ℤ (neg_ℤ g +ℤ neg_ℤ n)) (+ℤ_comm g m) ∙ +ℤ_assoc m g (neg_ℤ g +ℤ neg_ℤ n) ∙
    ap (λ z. m +ℤ z) (sym (+ℤ_assoc g (neg_ℤ g) (neg_ℤ n)) ∙ ap (λ z. z +ℤ neg_ℤ n) (+ℤ_invr g) ∙ +ℤ_idl (neg_ℤ n))

pub above_base : (g : ℤ) (a b : ℕ) → above (g +ℤ pos a) (g +ℤ pos b) ≡ a - b
unfolding above
above_base g a b = ap natural (cancel_base g (pos a) (pos b)) ∙ natural_sub a b

pub base_injective : (g : ℤ) (a b : ℕ) → g +ℤ pos a ≡ g +ℤ pos b → a ≡ b
base_injective g a b h =
    let one = sym (above_base g a b) ∙ ap (above (g +ℤ pos a)) (sym h) ∙ above_base g a a in
    let other = sym (above_base g b a) ∙ ap (above (g +ℤ pos b)) h ∙ above_base g b b in
    omega arith

-- two powers, each as a common base plus a natural number
pub record Over (e f : ℤ) : Type 0 where
  pub base : ℤ
  pub first : ℕ
  pub second : ℕ
  pub first_is : e ≡ base +ℤ pos first
  pub second_is : f ≡ base +ℤ pos second

pub over : (e f : ℤ) → Over e f
over e f = go (e -ℤ f) refl
  where
    sum : e ≡ f +ℤ (e -ℤ f)
    sum = sym (+ℤ_comm f (e -ℤ f) ∙ -ℤ-+ℤ_cancel e f)

    go : (d : ℤ) → e -ℤ f ≡ d → Over e f
    go (pos n) q = record { base = f; first = n; second = 0; first_is = sum ∙ ap (λ z. f +ℤ z) q; second_is = sym (+ℤ_idr f) }
    go (negsuc n) q =
        let back = ap (λ z. z +ℤ pos (suc n)) (sum ∙ ap (λ z. f +ℤ z) q) ∙ -ℤ-+ℤ_cancel f (pos (suc n)) in
        record { base = e; first = 0; second = suc n; first_is = sym (+ℤ_idr e); second_is = sym back }

-- Powers of ten

ten_cancel : (m n a b : ℕ) → (m * 10 ^ suc a ≡ n * 10 ^ suc b) ↔ (m * 10 ^ a ≡ n * 10 ^ b)
ten_cancel m n a b = rw (pow-succ' 10 a, pow-succ' 10 b) (λ h. omega arith, λ h. omega arith)

pub scale : (m n a b : ℕ) → (m * 10 ^ a ≡ n * 10 ^ b) ↔ (m * 10 ^ (a - b) ≡ n * 10 ^ (b - a))
scale m n zero zero = Iff.rfl
scale m n zero (suc b) = rw (zero-sub (suc b), sub-zero (suc b)) Iff.rfl
scale m n (suc a) zero = rw (zero-sub (suc a), sub-zero (suc a)) Iff.rfl
scale m n (suc a) (suc b) = rw (suc-sub-suc a b, suc-sub-suc b a) (Iff.trans (ten_cancel m n a b) (scale m n a b))

-- Two integers that are not multiples of ten, each times a power of ten: if the products are equal, the integers and the powers are.
pub unscaled : (m n a b : ℕ) → (m % 10 ≡ 0 → ⊥) → (n % 10 ≡ 0 → ⊥) → m * 10 ^ a ≡ n * 10 ^ b → (m ≡ n) × (a ≡ b)
unscaled m n zero zero p q h = (omega arith, refl)
unscaled m n zero (suc b) p q h = absurd (p (multiple m n (10 ^ b) (rw pow-succ' at h)))
  where
    multiple : (m n t : ℕ) → m * 1 ≡ n * (10 * t) → m % 10 ≡ 0
    multiple m n t h = omega arith
unscaled m n (suc a) zero p q h = absurd (q (multiple m n (10 ^ a) (rw pow-succ' at h)))
  where
    multiple : (m n t : ℕ) → m * (10 * t) ≡ n * 1 → n % 10 ≡ 0
    multiple m n t h = omega arith
unscaled m n (suc a) (suc b) p q h =
    let ih = unscaled m n a b p q ((ten_cancel m n a b).0 h) in
    (ih.0, ap suc ih.1)

pub ten_positive : (a : ℕ) → 1 ≤ 10 ^ a
ten_positive a = one-le-pow a 10 (omega arith)

ten_add : (a b : ℕ) → 10 ^ (a + b) ≡ 10 ^ a * 10 ^ b
ten_add zero b = rw (zero-add b) (omega arith)
ten_add (suc a) b = rw (suc-add a b, pow-succ' 10 (a + b), pow-succ' 10 a, ten_add a b) (omega arith)

pub scale_twice : (m a b : ℕ) → m * 10 ^ a * 10 ^ b ≡ m * 10 ^ (a + b)
scale_twice m a b = rw (ten_add a b) (mul_assoc m (10 ^ a) (10 ^ b))

-- Two integers times powers of ten are equal exactly where they are equal over a common base.
pub over_one_base : (m n : ℕ) (e f : ℤ) (o : Over e f) →
    (m * 10 ^ above e f ≡ n * 10 ^ above f e) ↔ (m * 10 ^ o.first ≡ n * 10 ^ o.second)
over_one_base m n e f o =
    let up = ap₂ above o.first_is o.second_is ∙ above_base o.base o.first o.second in
    let down = ap₂ above o.second_is o.first_is ∙ above_base o.base o.second o.first in
    rw (up, down) (Iff.symm (scale m n o.first o.second))

-- Signs

pub sign-scaled : (a : Bool) (n k : ℕ) → with_sign a n *ℤ pos k ≡ with_sign a (n * k)
unfolding with_sign
sign-scaled false n k = refl
sign-scaled true zero k = rw (zero-mul k)
sign-scaled true (suc n) k = refl

sign-size : (a : Bool) (n : ℕ) → nat_abs (with_sign a n) ≡ n
unfolding with_sign
sign-size false n = refl
sign-size true zero = refl
sign-size true (suc n) = refl

below_zero : ℤ → Bool
below_zero (pos n) = false
below_zero (negsuc n) = true

-- a zero is not below zero, whatever sign it has
sign_below : (a : Bool) (n : ℕ) → below_zero (with_sign a n) ≡ (a && ltb 0 n)
unfolding with_sign below_zero
sign_below false n = refl
sign_below true zero = refl
sign_below true (suc n) = sym (lt-ltb 0 (suc n) (omega arith))

sign-needed : (a : Bool) (n : ℕ) → with_sign (a && ltb 0 n) n ≡ with_sign a n
unfolding with_sign
sign-needed false n = refl
sign-needed true zero = refl
sign-needed true (suc n) = rw (lt-ltb 0 (suc n) (omega arith))

-- an integer is its size, and whether it is below zero
pub same_signed : (a b : Bool) (m n : ℕ) → ((m ≡ n) × ((a && ltb 0 m) ≡ (b && ltb 0 n))) ↔ (with_sign a m ≡ with_sign b n)
same_signed a b m n = (
  λ h. sym (sign-needed a m) ∙ ap₂ with_sign h.1 h.0 ∙ sign-needed b n,
  λ h. (
    sym (sign-size a m) ∙ ap nat_abs h ∙ sign-size b n,
    sym (sign_below a m) ∙ ap below_zero h ∙ sign_below b n,
  ),
)

-- Zero

product_size : (z : ℤ) (k : ℕ) → nat_abs (z *ℤ pos k) ≡ nat_abs z * k
product_size (pos n) k = refl
product_size (negsuc n) k = negated (suc n * k)
  where
    negated : (n : ℕ) → nat_abs (neg_ℤ (pos n)) ≡ n
    negated zero = refl
    negated (suc n) = refl

-- only zero is zero, scaled
pub zero_scaled : (z : ℤ) (k : ℕ) → z *ℤ pos (10 ^ k) ≡ pos 0 → z ≡ pos 0
zero_scaled z k h = go z (sym (product_size z (10 ^ k)) ∙ ap nat_abs h)
  where
    positive : (n : ℕ) → suc n * 10 ^ k ≡ 0 → ⊥
    positive n h = let one : 0 < suc n = omega arith in let product = mul-pos one (ten_positive k) in omega arith

    go : (z : ℤ) → nat_abs z * 10 ^ k ≡ 0 → z ≡ pos 0
    go (pos zero) h = refl
    go (pos (suc n)) h = absurd (positive n h)
    go (negsuc n) h = absurd (positive n h)
