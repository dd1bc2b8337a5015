-- What the grammar derives is read, unless a limit is passed.
use Prim.Native.Nat.{ℕ}
use mathlib.Core.Path.{◌≡◌, refl, ◌∙◌}
use native.Mathlib.Omega.{arith}
use Rattle.spec.specs.Outcome.{Outcome, ok, refused, ◌>>=◌}
use Rattle.spec.specs.Refusal.{not_json}

-- An outcome is the result x, or a refusal by a number other than 3; then what is asked does not hold.
pub data Reads {X : Type 0} (x : X) (asked : Type 0) : Outcome X → Type 0 where
  reads : Reads x asked (ok x)
  exceeds : {number p : ℕ} → (number ≡ not_json → ⊥) → (asked → ⊥) → Reads x asked (refused number p)

module _ {X : Type 0} {asked : Type 0} where
  -- where it holds, the result is x
  pub reads_it : {x : X} {o : Outcome X} → Reads x asked o → asked → o ≡ ok x
  reads_it reads a = refl
  reads_it (exceeds h n) a = absurd (n a)

  -- in no case is the text refused by 3
  pub not_refused : {x : X} {o : Outcome X} {p : ℕ} → Reads x asked o → o ≡ refused not_json p → ⊥
  not_refused reads e = let z : ◌≡◌ {A = ℕ} 0 1 = cc in omega arith
  not_refused (exceeds {number = number} h n) e = let same : number ≡ not_json = cc in h same

  pub refusal_reason : {x : X} {o : Outcome X} {number p : ℕ} → Reads x asked o → o ≡ refused number p → (¬ (number ≡ not_json)) × (¬ asked)
  refusal_reason reads e = absurd (let z : ◌≡◌ {A = ℕ} 0 1 = cc in omega arith)
  refusal_reason {number = number} (exceeds {number = other} h n) e = let same : other ≡ number = cc in ((λ i. h (same ∙ i)), n)

  pub reads_ok : (o : Outcome X) {x : X} → o ≡ ok x → Reads x asked o
  reads_ok o e = rw e reads

  pub reads_same : {x y : X} {o : Outcome X} → x ≡ y → Reads x asked o → Reads y asked o
  reads_same e r = rw (← e) r

  pub asks_more : {more : Type 0} {x : X} {o : Outcome X} → (more → asked) → Reads x asked o → Reads x more o
  asks_more f reads = reads
  asks_more f (exceeds h n) = exceeds h (λ m. n (f m))

  pub reads_then : {Y : Type 0} {x : X} {y : Y} {o : Outcome X} (g : X → Outcome Y) → Reads x asked o → Reads y asked (g x) → Reads y asked (o >>= g)
  unfolding ◌>>=◌
  reads_then g reads r = r
  reads_then g (exceeds h n) r = exceeds h n
