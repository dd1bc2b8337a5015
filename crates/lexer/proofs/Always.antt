-- Always P o: P holds of the result of an outcome, if it has one. A rule for each way in which readers are put together.
use Rattle.std.specs.Prelude.{if◌then◌else◌}
use Prim.Native.Nat.{ℕ}
use mathlib.Core.Path.{◌≡◌, refl}
use mathlib.Core.Bool.{Bool, true, false}
use Rattle.spec.specs.Outcome.{Outcome, ok, refused, ◌>>=◌}

pub data Always {A : Type 0} (P : A → Type 0) : Outcome A → Type 0 where
  refuses : {number place : ℕ} → Always P (refused number place)
  gives : (v : A) → P v → Always P (ok v)

pub result : {A : Type 0} {P : A → Type 0} {v : A} → Always P (ok v) → P v
result (gives v p) = p

module _ {A : Type 0} {P : A → Type 0} where
  pub either : (t : Bool) {a b : Outcome A} → (t ≡ true → Always P a) → (t ≡ false → Always P b) → Always P (if t then a else b)
  either true f g = f refl
  either false f g = g refl

  pub next : {B : Type 0} (m : Outcome B) {f : B → Outcome A} → ((n : B) → m ≡ ok n → Always P (f n)) → Always P (m >>= f)
  unfolding ◌>>=◌
  next (ok n) h = h n refl
  next (refused number place) h = refuses

  pub weaken : {Q : A → Type 0} {o : Outcome A} → ((v : A) → Q v → P v) → Always Q o → Always P o
  weaken f refuses = refuses
  weaken f (gives v q) = gives v (f v q)
