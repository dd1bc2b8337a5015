-- Laws of a forest's trees by their place: what `replace_at` leaves, and what it changes.
use Rattle.std.specs.Prelude.{if◌then◌else◌}
use mathlib.Core.Path.{◌≡◌, refl, ap}
use mathlib.Core.Bool.{Bool, true, false}
use Prim.Native.Nat.{ℕ, zero, suc, ◌<◌, ◌≤◌, max}
use native.Mathlib.Omega.{arith}
use Rattle.spec.specs.Bytes.{Text}
use Rattle.spec.specs.Forest.{Forest, none, tree, Tree, count, before, from, replace_at, nth, ◌⧺◌}
use Rattle.spec.specs.Value.{Members, Entry, find, named, value_of, depths, depth, same_text}
use Rattle.spec.specs.Value as Value

module _ {A : Type 0} where
  pub count-replace_at : (k : ℕ) (t : Tree A) (f : Forest A) → k < count f → count (replace_at k t f) ≡ count f
  unfolding count replace_at before from ◌⧺◌
  count-replace_at k t none h = absurd (omega arith)
  count-replace_at zero t (tree a kids rest) h = refl
  count-replace_at (suc k) t (tree a kids rest) h = ap suc (count-replace_at k t rest (omega arith))

  pub nth-replace_at : (z t : Tree A) (k : ℕ) (f : Forest A) → k < count f → nth z k (replace_at k t f) ≡ t
  unfolding count replace_at before from ◌⧺◌ nth
  nth-replace_at z t k none h = absurd (omega arith)
  nth-replace_at z t zero (tree a kids rest) h = refl
  nth-replace_at z t (suc k) (tree a kids rest) h = nth-replace_at z t k rest (omega arith)

  pub nth-replace_at-other : (z t : Tree A) (k l : ℕ) (f : Forest A) → k < count f → (k ≡ l → ⊥) → nth z l (replace_at k t f) ≡ nth z l f
  unfolding count replace_at before from ◌⧺◌ nth
  nth-replace_at-other z t k l none h n = absurd (omega arith)
  nth-replace_at-other z t zero zero (tree a kids rest) h n = absurd (n refl)
  nth-replace_at-other z t zero (suc l) (tree a kids rest) h n = refl
  nth-replace_at-other z t (suc k) zero (tree a kids rest) h n = refl
  nth-replace_at-other z t (suc k) (suc l) (tree a kids rest) h n = nth-replace_at-other z t k l rest (omega arith) (λ e. n (ap suc e))

  pub replace_at-twice : (t u : Tree A) (k : ℕ) (f : Forest A) → k < count f → replace_at k u (replace_at k t f) ≡ replace_at k u f
  unfolding count replace_at before from ◌⧺◌
  replace_at-twice t u k none h = absurd (omega arith)
  replace_at-twice t u zero (tree a kids rest) h = refl
  replace_at-twice t u (suc k) (tree a kids rest) h = ap (tree a kids) (replace_at-twice t u k rest (omega arith))

  pub replace_at_commute : (t u : Tree A) (k l : ℕ) (f : Forest A) → k < count f → l < count f → (k ≡ l → ⊥) →
      replace_at l u (replace_at k t f) ≡ replace_at k t (replace_at l u f)
  unfolding count replace_at before from ◌⧺◌
  replace_at_commute t u k l none h i n = absurd (omega arith)
  replace_at_commute t u zero zero (tree a kids rest) h i n = absurd (n refl)
  replace_at_commute t u zero (suc l) (tree a kids rest) h i n = refl
  replace_at_commute t u (suc k) zero (tree a kids rest) h i n = refl
  replace_at_commute t u (suc k) (suc l) (tree a kids rest) h i n =
      ap (tree a kids) (replace_at_commute t u k l rest (omega arith) (omega arith) (λ e. n (ap suc e)))

  pub replace_at-nth : (z : Tree A) (k : ℕ) (f : Forest A) → k < count f → replace_at k (nth z k f) f ≡ f
  unfolding count replace_at before from ◌⧺◌ nth
  replace_at-nth z k none h = absurd (omega arith)
  replace_at-nth z zero (tree a kids rest) h = refl
  replace_at-nth z (suc k) (tree a kids rest) h = ap (tree a kids) (replace_at-nth z k rest (omega arith))

-- a tree in another's place, with the other's name, leaves every name where it stood
pub find-replace_at : (z : Tree Entry) (n : Text) (x : Value.Value) (k : ℕ) (f : Members) → k < count f →
    find n (replace_at k (named (nth z k f).root.name x) f) ≡ find n f
unfolding count replace_at before from ◌⧺◌ nth find
find-replace_at z n x k none h = absurd (omega arith)
find-replace_at z n x zero (tree e kids rest) h = refl
find-replace_at z n x (suc k) (tree e kids rest) h =
    ap (λ r. (if (same_text e.name n) then 0 else suc r)) (find-replace_at z n x k rest (omega arith))

-- the tree that is found has the name
pub name_find : (z : Tree Entry) (n : Text) (f : Members) → find n f < count f → same_text (nth z (find n f) f).root.name n ≡ true
unfolding count nth find
name_find z n none h = absurd (omega arith)
name_find z n (tree e kids rest) h = go (same_text e.name n) refl h (name_find z n rest)
  where
    go : (b : Bool) → same_text e.name n ≡ b → (if b then 0 else suc (find n rest)) < suc (count rest) →
        (find n rest < count rest → same_text (nth z (find n rest) rest).root.name n ≡ true) →
        same_text (nth z ((if b then 0 else suc (find n rest))) (tree e kids rest)).root.name n ≡ true
    go true q h ih = q
    go false q h ih = ih (omega arith)

-- How deep: with a tree in another's place, the trees are at least as deep as that tree, and at most as deep as that tree or as before.
pub depths-nth : (z : Tree Entry) (k : ℕ) (f : Members) → k < count f → depth (value_of (nth z k f)) ≤ depths f
unfolding count nth depths depth
depths-nth z k none h = absurd (omega arith)
depths-nth z zero (tree e kids rest) h = omega arith
depths-nth z (suc k) (tree e kids rest) h = omega (arith, depths-nth z k rest (omega arith))

pub depths-replace_at : (n : Text) (x : Value.Value) (k : ℕ) (f : Members) → k < count f →
    (depth x ≤ depths (replace_at k (named n x) f)) × (depths (replace_at k (named n x) f) ≤ max (depth x) (depths f))
unfolding count replace_at before from ◌⧺◌ depths depth
depths-replace_at n x k none h = absurd (omega arith)
depths-replace_at n x zero (tree e kids rest) h = omega arith
depths-replace_at n x (suc k) (tree e kids rest) h = let ih = depths-replace_at n x k rest (omega arith) in omega arith
