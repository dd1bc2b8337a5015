-- The tests of the definitions as facts, and the facts as tests.
use Prim.Native.Nat.{ℕ, ◌<◌, ◌≤◌}
use mathlib.Core.Path.{◌≡◌, refl}
use mathlib.Core.Bool.{Bool, true, false, ◌||◌, true≢false, and-eq-true_iff}
use lib.Dec.{leb}
use borrow.Author.Tests.{leb-true, leb-false, le-leb, lt-leb}
use Rattle.spec.specs.Bytes.{within}

-- a computed Bool, with its value
pub by_cases : {C : Type 0} (b : Bool) → (b ≡ true → C) → (b ≡ false → C) → C
by_cases true f g = f refl
by_cases false f g = g refl

pub either : (a b : Bool) {C : Type 0} → (a || b) ≡ true → (a ≡ true → C) → (b ≡ true → C) → C
either true b h f g = f refl
either false b h f g = g h

pub neither : (a b : Bool) → (a || b) ≡ false → (a ≡ false) × (b ≡ false)
neither true b h = absurd (true≢false h)
neither false b h = (refl, h)

pub within_true : (low high n : ℕ) → within low high n ≡ true → (low ≤ n) × (n ≤ high)
unfolding within
within_true low high n h =
    let q = (and-eq-true_iff (leb low n) (leb n high)).0 h in
    (leb-true low n q.0, leb-true n high q.1)

pub in_range : (low high n : ℕ) → low ≤ n → n ≤ high → within low high n ≡ true
unfolding within
in_range low high n l h = rw (le-leb low n l, le-leb n high h)

pub below_range : (low high n : ℕ) → n < low → within low high n ≡ false
unfolding within
below_range low high n l = rw (lt-leb low n l)

pub above_range : (low high n : ℕ) → high < n → within low high n ≡ false
unfolding within
above_range low high n h = by_cases (leb low n) (λ e. rw (e, lt-leb n high h)) (λ e. rw e)

-- outside a range, and not below it
pub past_range : (low high n : ℕ) → within low high n ≡ false → low ≤ n → high < n
unfolding within
past_range low high n h l = leb-false n high (rw (le-leb low n l) at h)
