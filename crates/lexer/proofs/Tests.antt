-- The tests of the code and those of the definitions.
use Prim.Native.Nat.{ℕ, suc, ◌≤◌, ◌<◌}
use mathlib.Core.Path.{◌≡◌, refl, sym, ◌∙◌}
use mathlib.Core.Bool.{Bool, true, false, ◌&&◌, and-false, true≢false}
use native.Mathlib.Omega.{arith}
use borrow.Author.Tests.{eq-eqb, ne_eqb, le-leb, lt-leb, lt-ltb, le-ltb, leb-true, eqb-false}
use lib.Dec.{leb, eqb}
use Rattle.spec.specs.Bytes.{within}

-- what the definition gives, from what a function ensures and what it answered
pub told : {A : Type 0} {r d v : A} → r ≡ d → r ≡ v → d ≡ v
told e t = sym e ∙ t

-- a comparison with a numeral, from one with another numeral: the test of the two numerals computes
pub lt_lt : (a m c : ℕ) → a < m → leb m c ≡ true → a < c
lt_lt a m c h t = omega (arith, leb-true m c t)

pub lt_le : (a m c : ℕ) → a < m → leb m (suc c) ≡ true → a ≤ c
lt_le a m c h t = omega (arith, leb-true m (suc c) t)

pub le_lt : (a m c : ℕ) → a ≤ m → leb (suc m) c ≡ true → a < c
le_lt a m c h t = omega (arith, leb-true (suc m) c t)

pub le_le : (a m c : ℕ) → a ≤ m → leb m c ≡ true → a ≤ c
le_le a m c h t = omega (arith, leb-true m c t)

pub ge_ge : (a m c : ℕ) → m ≤ a → leb c m ≡ true → c ≤ a
ge_ge a m c h t = omega (arith, leb-true c m t)

pub ge_gt : (a m c : ℕ) → m ≤ a → leb (suc c) m ≡ true → c < a
ge_gt a m c h t = omega (arith, leb-true (suc c) m t)

pub gt_gt : (a m c : ℕ) → m < a → leb c m ≡ true → c < a
gt_gt a m c h t = omega (arith, leb-true c m t)

pub gt_ge : (a m c : ℕ) → m < a → leb c (suc m) ≡ true → c ≤ a
gt_ge a m c h t = omega (arith, leb-true c (suc m) t)

pub eq_le : (a m c : ℕ) → a ≡ m → leb m c ≡ true → a ≤ c
eq_le a m c h t = omega (arith, leb-true m c t)

pub eq_lt : (a m c : ℕ) → a ≡ m → leb (suc m) c ≡ true → a < c
eq_lt a m c h t = omega (arith, leb-true (suc m) c t)

pub eq_ge : (a m c : ℕ) → a ≡ m → leb c m ≡ true → c ≤ a
eq_ge a m c h t = omega (arith, leb-true c m t)

pub eq_gt : (a m c : ℕ) → a ≡ m → leb (suc c) m ≡ true → c < a
eq_gt a m c h t = omega (arith, leb-true (suc c) m t)

pub ruleset orders = (lt_lt, lt_le, le_lt, le_le, ge_ge, ge_gt, gt_gt, gt_ge, eq_le, eq_lt, eq_ge, eq_gt)

-- two numbers differ: it was tested, or one is another numeral, below it or above it
pub record Differ (a c : ℕ) : Type 0 where
  pub apart : a ≡ c → ⊥

pub differ_tested : (a c : ℕ) → (a ≡ c → ⊥) → Differ a c
differ_tested a c h = record { apart = h }

pub differ_numeral : (a m c : ℕ) → a ≡ m → eqb m c ≡ false → Differ a c
differ_numeral a m c h t = record { apart = λ e. eqb-false m c t (sym h ∙ e) }

pub differ_below : (a c : ℕ) → a < c → Differ a c
differ_below a c h = record { apart = λ e. omega arith }

pub differ_above : (a c : ℕ) → c < a → Differ a c
differ_above a c h = record { apart = λ e. omega arith }

pub differ_eqb : (a c : ℕ) → Differ a c → eqb a c ≡ false
differ_eqb a c h = ne_eqb a c h.apart

pub ruleset differ = (differ_eqb, differ_tested, differ_numeral, differ_below, differ_above)

pub ruleset tests = (eq-eqb, differ, le-leb, lt-leb, lt-ltb, le-ltb, orders)

-- within its bounds, below them, above them
pub within_bounds : (low high n : ℕ) → within low high n ≡ true → (low ≤ n) × (n ≤ high)
unfolding within
within_bounds low high n t = go (leb low n) (leb n high) refl refl t
  where
    go : (a b : Bool) → leb low n ≡ a → leb n high ≡ b → (a && b) ≡ true → (low ≤ n) × (n ≤ high)
    go true true p q e = (leb-true low n p, leb-true n high q)
    go true false p q e = absurd (true≢false (sym e))
    go false b p q e = absurd (true≢false (sym e))

pub between-within : (low high n : ℕ) → low ≤ n → n ≤ high → within low high n ≡ true
unfolding within
between-within low high n l h = rw (le-leb low n l, le-leb n high h)

pub below_within : (low high n : ℕ) → n < low → within low high n ≡ false
unfolding within
below_within low high n h = rw (lt-leb low n h)

pub above_within : (low high n : ℕ) → high < n → within low high n ≡ false
unfolding within
above_within low high n h = rw (lt-leb n high h) (and-false (leb low n))

pub and_both : (a b : Bool) → (a && b) ≡ true → (a ≡ true) × (b ≡ true)
and_both true b e = (refl, e)
and_both false b e = absurd (true≢false (sym e))
