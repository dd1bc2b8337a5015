-- A forest as the trees before a place and those from it on.
use mathlib.Core.Path.{◌≡◌, refl, ap}
use Prim.Native.Nat.{ℕ, zero, suc, ◌+◌, ◌<◌, ◌≤◌}
use native.Mathlib.Omega.{arith}
use Rattle.spec.specs.Forest.{Forest, none, tree, Tree, count, before, from, insert_at, remove_at, replace_at, nth, ◌⧺◌}

module _ {A : Type 0} where
  pub count-append : (b g : Forest A) → count (b ⧺ g) ≡ count b + count g
  unfolding count ◌⧺◌
  count-append none g = omega arith
  count-append (tree a kids rest) g = omega (arith, count-append rest g)

  -- cut at a place
  pub split_at : (k : ℕ) (f : Forest A) → f ≡ before k f ⧺ from k f
  unfolding before from ◌⧺◌
  split_at zero f = refl
  split_at (suc k) none = refl
  split_at (suc k) (tree a kids rest) = ap (tree a kids) (split_at k rest)

  pub split : (z : Tree A) (k : ℕ) (f : Forest A) → k < count f → f ≡ before k f ⧺ tree (nth z k f).root (nth z k f).kids (from (suc k) f)
  unfolding count before from nth ◌⧺◌
  split z k none h = absurd (omega arith)
  split z zero (tree a kids rest) h = refl
  split z (suc k) (tree a kids rest) h = ap (tree a kids) (split z k rest (omega arith))

  pub count-before : (k : ℕ) (f : Forest A) → k ≤ count f → count (before k f) ≡ k
  unfolding count before
  count-before zero f h = refl
  count-before (suc k) none h = absurd (omega arith)
  count-before (suc k) (tree a kids rest) h = ap suc (count-before k rest (omega arith))

  -- put together, and cut at the same place again
  pub before_split : (b g : Forest A) → before (count b) (b ⧺ g) ≡ b
  unfolding count before ◌⧺◌
  before_split none g = refl
  before_split (tree a kids rest) g = ap (tree a kids) (before_split rest g)

  pub from_split : (b g : Forest A) → from (count b) (b ⧺ g) ≡ g
  unfolding count from ◌⧺◌
  from_split none g = refl
  from_split (tree a kids rest) g = from_split rest g

  pub from_next : (b : Forest A) (a : A) (kids g : Forest A) → from (suc (count b)) (b ⧺ tree a kids g) ≡ g
  unfolding count from ◌⧺◌
  from_next none a kids g = refl
  from_next (tree c below rest) a kids g = from_next rest a kids g

  pub nth_split : (z : Tree A) (b : Forest A) (a : A) (kids g : Forest A) → nth z (count b) (b ⧺ tree a kids g) ≡ record { root = a; kids = kids }
  unfolding count nth ◌⧺◌
  nth_split z none a kids g = refl
  nth_split z (tree c below rest) a kids g = nth_split z rest a kids g

  -- the same for what is put in, taken out and replaced there
  pub insert_split : (b g : Forest A) (t : Tree A) → insert_at (count b) t (b ⧺ g) ≡ b ⧺ tree t.root t.kids g
  unfolding insert_at ◌⧺◌
  insert_split b g t = rw (before_split b g, from_split b g)

  pub remove_split : (b : Forest A) (a : A) (kids g : Forest A) → remove_at (count b) (b ⧺ tree a kids g) ≡ b ⧺ g
  unfolding remove_at
  remove_split b a kids g = rw (before_split b (tree a kids g), from_next b a kids g)

  pub replace_split : (b : Forest A) (a : A) (kids g : Forest A) (t : Tree A) → replace_at (count b) t (b ⧺ tree a kids g) ≡ b ⧺ tree t.root t.kids g
  unfolding replace_at ◌⧺◌
  replace_split b a kids g t = rw (before_split b (tree a kids g), from_next b a kids g)

  pub insert_last : (t : Tree A) (f : Forest A) → insert_at (count f) t f ≡ f ⧺ tree t.root t.kids none
  unfolding count insert_at before from ◌⧺◌
  insert_last t none = refl
  insert_last t (tree a kids rest) = ap (tree a kids) (insert_last t rest)
