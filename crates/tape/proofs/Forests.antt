-- Laws of forests: their trees counted, cut and changed.
use Prim.Native.Nat.{ℕ, zero, suc, ◌+◌, ◌≤◌, ◌<◌}
use native.Mathlib.Nat.{not-suc-le-zero, le_of_suc-le-suc, suc-add, zero-add}
use native.Mathlib.Omega.{arith}
use mathlib.Core.Path.{◌≡◌, refl, sym, ap, ◌∙◌}
use Rattle.spec.specs.Forest.{Forest, none, tree, Tree, single, count, size, before, from, nth, remove_at, replace_at, ◌⧺◌}

module _ {A : Type 0} where
  -- ---- joined
  pub ⧺_assoc : (f g h : Forest A) → (f ⧺ g) ⧺ h ≡ f ⧺ g ⧺ h
  unfolding ◌⧺◌
  ⧺_assoc none g h = refl
  ⧺_assoc (tree a kids rest) g h = ap (tree a kids) (⧺_assoc rest g h)

  pub count_⧺ : (f g : Forest A) → count (f ⧺ g) ≡ count f + count g
  unfolding count ◌⧺◌
  count_⧺ none g = rw zero-add
  count_⧺ (tree a kids rest) g = rw (suc-add, count_⧺ rest g)

  pub size_⧺ : (f g : Forest A) → size (f ⧺ g) ≡ size f + size g
  unfolding size ◌⧺◌
  size_⧺ none g = rw zero-add
  size_⧺ (tree a kids rest) g = rw (size_⧺ rest g) (omega arith)

  pub size-single : (t : Tree A) → size (single t) ≡ suc (size t.kids)
  unfolding size
  size-single t = omega arith

  -- ---- cut before the k-th tree
  pub before-from : (k : ℕ) (f : Forest A) → before k f ⧺ from k f ≡ f
  unfolding before from ◌⧺◌
  before-from zero f = refl
  before-from (suc k) none = refl
  before-from (suc k) (tree a kids rest) = ap (tree a kids) (before-from k rest)

  pub size-cut : (k : ℕ) (f : Forest A) → size (before k f) + size (from k f) ≡ size f
  size-cut k f = sym (size_⧺ (before k f) (from k f)) ∙ ap size (before-from k f)

  pub count-from : (k : ℕ) (f : Forest A) → k ≤ count f → k + count (from k f) ≡ count f
  unfolding count from
  count-from zero f h = omega arith
  count-from (suc k) none h = absurd (omega arith)
  count-from (suc k) (tree a kids rest) h = let ih = count-from k rest (omega arith) in omega arith

  -- no tree is left from the end on
  pub before_all : (k : ℕ) (f : Forest A) → count f ≤ k → before k f ≡ f
  unfolding before count
  before_all zero none h = refl
  before_all zero (tree a kids rest) h = absurd (not-suc-le-zero h)
  before_all (suc k) none h = refl
  before_all (suc k) (tree a kids rest) h = ap (tree a kids) (before_all k rest (le_of_suc-le-suc h))

  pub from_all : (k : ℕ) (f : Forest A) → count f ≤ k → from k f ≡ none
  unfolding from count
  from_all zero none h = refl
  from_all zero (tree a kids rest) h = absurd (not-suc-le-zero h)
  from_all (suc k) none h = refl
  from_all (suc k) (tree a kids rest) h = from_all k rest (le_of_suc-le-suc h)

  -- the k-th tree, and those behind it
  pub from-nth : (t : Tree A) (k : ℕ) (f : Forest A) → k < count f → from k f ≡ single (nth t k f) ⧺ from (suc k) f
  unfolding from nth count ◌⧺◌
  from-nth t k none h = absurd (not-suc-le-zero h)
  from-nth t zero (tree a kids rest) h = refl
  from-nth t (suc k) (tree a kids rest) h = from-nth t k rest (le_of_suc-le-suc h)

  pub before-nth : (t : Tree A) (k : ℕ) (f : Forest A) → k < count f → before (suc k) f ≡ before k f ⧺ single (nth t k f)
  unfolding before nth count ◌⧺◌
  before-nth t k none h = absurd (not-suc-le-zero h)
  before-nth t zero (tree a kids rest) h = refl
  before-nth t (suc k) (tree a kids rest) h = ap (tree a kids) (before-nth t k rest (le_of_suc-le-suc h))

  pub size-before_suc : (t : Tree A) (k : ℕ) (f : Forest A) → k < count f → size (before (suc k) f) ≡ size (before k f) + suc (size (nth t k f).kids)
  size-before_suc t k f h = ap size (before-nth t k f h) ∙ size_⧺ (before k f) (single (nth t k f)) ∙ ap (◌+◌ (size (before k f))) (size-single (nth t k f))

  pub from_suc : (k : ℕ) (f : Forest A) (a : A) (kids rest : Forest A) → from k f ≡ tree a kids rest → from (suc k) f ≡ rest
  unfolding from
  from_suc zero none a kids rest e = absurd (let z : ◌≡◌ {A = ℕ} 0 1 = cc in omega arith)
  from_suc zero (tree b ks r) a kids rest e = cc
  from_suc (suc k) none a kids rest e = absurd (let z : ◌≡◌ {A = ℕ} 0 1 = cc in omega arith)
  from_suc (suc k) (tree b ks r) a kids rest e = from_suc k r a kids rest e

  -- ---- a forest without nodes
  pub size_none : (f : Forest A) → size f ≡ 0 → f ≡ none
  unfolding size
  size_none none e = refl
  size_none (tree a kids rest) e = absurd (omega arith)

  -- a forest with a node has a first tree
  pub first_tree : {C : Type 0} (f : Forest A) → 0 < size f → ((a : A) (kids rest : Forest A) → f ≡ tree a kids rest → C) → C
  unfolding size
  first_tree none h then-it = absurd (omega arith)
  first_tree (tree a kids rest) h then-it = then-it a kids rest refl

  pub count_le_size : (f : Forest A) → count f ≤ size f
  unfolding count size
  count_le_size none = omega arith
  count_le_size (tree a kids rest) = omega (arith, count_le_size rest)

  -- ---- the three changes; t is any tree
  module _ (t : Tree A) (k : ℕ) (f : Forest A) (there : k < count f) where
    -- what stands before, at and behind the k-th tree
    pub size_kth : size f ≡ size (before k f) + suc (size (nth t k f).kids) + size (from (suc k) f)
    size_kth =
        omega (arith, size-cut k f, ap size (from-nth t k f there), size_⧺ (single (nth t k f)) (from (suc k) f), size-single (nth t k f))

    pub size-remove_at : size (remove_at k f) + suc (size (nth t k f).kids) ≡ size f
    unfolding remove_at
    size-remove_at = omega (arith, size_⧺ (before k f) (from (suc k) f), size_kth)

    pub size-replace_at : (new : Tree A) → size (replace_at k new f) + suc (size (nth t k f).kids) ≡ size f + suc (size new.kids)
    unfolding replace_at
    size-replace_at new =
        omega (arith, size_⧺ (before k f) (single new ⧺ from (suc k) f), size_⧺ (single new) (from (suc k) f), size-single new, size_kth)
