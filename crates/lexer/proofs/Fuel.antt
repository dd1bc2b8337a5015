-- A loop of the definitions has fuel, which falls by one each turn and starts at the text's length. `Runs F s at v`: the loop F, from a place on and
-- with fuel for every byte that is left, gives v. A turn that goes on keeps that, and one that ends the loop gives v, so that no law of a loop speaks
-- of its fuel.
use Prim.Native.Nat.{ℕ, zero, suc, ◌+◌, ◌≤◌, ◌<◌}
use mathlib.Core.Path.{◌≡◌, refl, sym, ◌∙◌}
use native.Mathlib.Omega.{arith}
use lib.ListN.{length}
use Rattle.spec.specs.Bytes.{Bytes}

pub record Runs {B : Type 0} (F : ℕ → ℕ → B) (s : Bytes) (at : ℕ) (v : B) : Type 0 where
  pub fuel : ℕ
  pub enough : length s ≤ fuel + at
  pub gives : F fuel at ≡ v

pub starts : {B : Type 0} (F : ℕ → ℕ → B) (s : Bytes) (at : ℕ) → Runs F s at (F (length s) at)
starts F s at = record { fuel = length s; enough = omega arith; gives = refl }

-- the turn at a place within the text goes on at a later place, with the same loop or another
pub goes_on : {B : Type 0} {F : ℕ → ℕ → B} {s : Bytes} {at : ℕ} {v : B} (G : ℕ → ℕ → B) (next : ℕ) →
    at < length s → at < next → ((fuel : ℕ) → F (suc fuel) at ≡ G fuel next) → Runs F s at v → Runs G s next v
goes_on {F = F} {s} {at} {v} G next i h step r = go r.fuel r.enough r.gives
  where
    go : (fuel : ℕ) → length s ≤ fuel + at → F fuel at ≡ v → Runs G s next v
    go zero l e = absurd (omega arith)
    go (suc fuel) l e = record { fuel = fuel; enough = omega arith; gives = sym (step fuel) ∙ e }

-- the turn at a place ends the loop
pub ends : {B : Type 0} {F : ℕ → ℕ → B} {s : Bytes} {at : ℕ} {v : B} {w : B} →
    (length s ≤ at → F zero at ≡ w) → ((fuel : ℕ) → F (suc fuel) at ≡ w) → Runs F s at v → w ≡ v
ends {F = F} {s} {at} {v} {w} out stop r = go r.fuel r.enough r.gives
  where
    go : (fuel : ℕ) → length s ≤ fuel + at → F fuel at ≡ v → w ≡ v
    go zero l e = sym (out (omega arith)) ∙ e
    go (suc fuel) l e = sym (stop fuel) ∙ e
