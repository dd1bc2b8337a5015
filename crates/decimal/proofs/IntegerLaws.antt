-- Laws of i32: the code's sums, differences and comparisons of powers of ten are those of the integers, since none is large.
use Prim.Native.Nat.{ℕ, zero, suc, ◌+◌, ◌-◌, ◌≤◌, ◌<◌}
use mathlib.Core.Path.{◌≡◌, refl, ◌∙◌}
use mathlib.Core.Bool.{Bool, true, false, cond}
use native.Mathlib.Omega.{arith}
use borrow.Author.Tests.{ltb-true, eqb-true, eqb-false, eq-eqb, ne_eqb}
use lib.Dec.{eqb, ltb}
use lib.IntN.{ℤ, pos, negsuc, neg_ℤ, nat_abs, sub_ℕ, ◌+ℤ◌, ◌-ℤ◌, +ℤ_idl}
use lib.Signed.{mag}
use mir.Syntax.{w32}
use mir.Val.{SFits, to_z, of_z}
use mir.ValLaws.{to_z_pos, to_z-of_z}
use Rattle.spec.specs.Equality.{same_integer}

-- ---- sizes

difference_size : (a b : ℕ) → nat_abs (sub_ℕ a b) ≤ a + b
difference_size a b = go (ltb a b) refl
  where
    go : (less : Bool) → ltb a b ≡ less → nat_abs (cond less (negsuc (b - suc a)) (pos (a - b))) ≤ a + b
    go true e = omega (arith, ltb-true a b e)
    go false e = omega arith

pub sum-size : (x y : ℤ) → nat_abs (x +ℤ y) ≤ nat_abs x + nat_abs y
sum-size (pos a) (pos b) = omega arith
sum-size (pos a) (negsuc b) = difference_size a (suc b)
sum-size (negsuc a) (pos b) = omega (arith, difference_size b (suc a))
sum-size (negsuc a) (negsuc b) = omega arith

pub negated_size : (n : ℕ) → nat_abs (neg_ℤ (pos n)) ≡ n
negated_size zero = refl
negated_size (suc n) = refl

-- what is small fits
pub fits : (z : ℤ) → nat_abs z < 2_147_483_648 → SFits w32 z
fits (pos n) h = record { sfits = h }
fits (negsuc n) h = record { sfits = omega arith }

-- an i32 is read back from its bits
pub back : (z : ℤ) → mag z < 2_147_483_648 → to_z w32 (of_z w32 z) ≡ z
back z h = to_z-of_z w32 z (record { sfits = h })

-- ---- the code's operations

module _ (n : ℕ) (h : n < 2_147_483_648) where
  pub negated_fits : SFits w32 (pos 0 -ℤ to_z w32 n)
  negated_fits = rw (to_z_pos w32 n h, +ℤ_idl (neg_ℤ (pos n))) (fits _ (rw (negated_size n) h))

  pub negated : to_z w32 (of_z w32 (pos 0 -ℤ to_z w32 n)) ≡ neg_ℤ (pos n)
  negated = to_z-of_z w32 _ negated_fits ∙ rw (to_z_pos w32 n h) (+ℤ_idl (neg_ℤ (pos n)))

module _ (e : ℤ) (f d : ℕ) (fits-e : SFits w32 e) (small : nat_abs e + f + d < 2_147_483_648) where
  less_size : nat_abs (e -ℤ pos f) ≤ nat_abs e + f
  less_size = omega (arith, sum-size e (neg_ℤ (pos f)), negated_size f)

  pub less_fits : SFits w32 (to_z w32 (of_z w32 e) -ℤ to_z w32 f)
  less_fits = rw (to_z-of_z w32 e fits-e, to_z_pos w32 f (omega arith)) (fits _ (omega (arith, less_size)))

  pub less : to_z w32 (of_z w32 (to_z w32 (of_z w32 e) -ℤ to_z w32 f)) ≡ e -ℤ pos f
  less = to_z-of_z w32 _ less_fits ∙ rw (to_z-of_z w32 e fits-e, to_z_pos w32 f (omega arith))

  pub more_fits : SFits w32 (to_z w32 (of_z w32 (to_z w32 (of_z w32 e) -ℤ to_z w32 f)) +ℤ to_z w32 d)
  more_fits = rw (less, to_z_pos w32 d (omega arith)) (fits _ (omega (arith, less_size, sum-size (e -ℤ pos f) (pos d))))

  pub more : to_z w32 (of_z w32 (to_z w32 (of_z w32 (to_z w32 (of_z w32 e) -ℤ to_z w32 f)) +ℤ to_z w32 d)) ≡ (e -ℤ pos f) +ℤ pos d
  more = to_z-of_z w32 _ more_fits ∙ rw (less, to_z_pos w32 d (omega arith))

-- ---- the comparison

same_test : (a b c d : ℕ) → (c ≡ d → a ≡ b) → (a ≡ b → c ≡ d) → eqb a b ≡ eqb c d
same_test a b c d f g = go (eqb c d) refl
  where
    go : (t : Bool) → eqb c d ≡ t → eqb a b ≡ t
    go true e = eq-eqb a b (f (eqb-true c d e))
    go false e = ne_eqb a b (λ x. eqb-false c d e (g x))

pub same_integer_lem : (x y : ℤ) → SFits w32 x → SFits w32 y → eqb (of_z w32 x) (of_z w32 y) ≡ same_integer x y
unfolding same_integer
same_integer_lem (pos m) (pos n) f g = refl
same_integer_lem (pos m) (negsuc n) f g = ne_eqb m (of_z w32 (negsuc n)) (λ e. omega (arith, f.sfits, g.sfits))
same_integer_lem (negsuc m) (pos n) f g = ne_eqb (of_z w32 (negsuc m)) n (λ e. omega (arith, f.sfits, g.sfits))
same_integer_lem (negsuc m) (negsuc n) f g =
    same_test (of_z w32 (negsuc m)) (of_z w32 (negsuc n)) m n (λ e. omega arith) (λ e. omega (arith, f.sfits, g.sfits))
