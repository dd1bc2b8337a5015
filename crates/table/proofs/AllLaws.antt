-- Laws of what holds of every node of a forest: it holds of the forest's parts, and of what is put together from such.
use Prim.Native.Nat.{ℕ, zero, suc, ◌<◌}
use native.Mathlib.Omega.{arith}
use Rattle.spec.specs.Forest.{Forest, tree, Tree, single, count, before, from, nth, replace_at, ◌⧺◌}
use Rattle.table.specs.All.{All, all_none, all_tree}

module _ {A : Type 0} {Q : A → Type 0} where
  pub all_first : {a : A} {kids rest : Forest A} → All Q (tree a kids rest) → Q a
  all_first (all_tree q k r) = q

  pub all_kids : {a : A} {kids rest : Forest A} → All Q (tree a kids rest) → All Q kids
  all_kids (all_tree q k r) = k

  pub all_rest : {a : A} {kids rest : Forest A} → All Q (tree a kids rest) → All Q rest
  all_rest (all_tree q k r) = r

  pub all_⧺ : {f g : Forest A} → All Q f → All Q g → All Q (f ⧺ g)
  unfolding ◌⧺◌
  all_⧺ all_none n = n
  all_⧺ (all_tree q k r) n = all_tree q k (all_⧺ r n)

  pub all_before : (k : ℕ) {f : Forest A} → All Q f → All Q (before k f)
  unfolding before
  all_before zero m = all_none
  all_before (suc n) all_none = all_none
  all_before (suc n) (all_tree q k r) = all_tree q k (all_before n r)

  pub all_from : (k : ℕ) {f : Forest A} → All Q f → All Q (from k f)
  unfolding from
  all_from zero m = m
  all_from (suc n) all_none = all_none
  all_from (suc n) (all_tree q k r) = all_from n r

  pub all_single : (t : Tree A) → Q t.root → All Q t.kids → All Q (single t)
  all_single t q k = all_tree q k all_none

  -- the k-th tree; t is any tree
  pub all_nth : {f : Forest A} (t : Tree A) (k : ℕ) → k < count f → All Q f → All Q (single (nth t k f))
  unfolding nth count
  all_nth t k h all_none = absurd (omega arith)
  all_nth t zero h (all_tree q k r) = all_tree q k all_none
  all_nth t (suc n) h (all_tree q k r) = all_nth t n (omega arith) r

  -- the three changes
  module _ (k : ℕ) {f : Forest A} (m : All Q f) where
    module _ (t : Tree A) (n : All Q (single t)) where
      pub all_replace_at : All Q (replace_at k t f)
      unfolding replace_at
      all_replace_at = all_⧺ (all_before k m) (all_⧺ n (all_from (suc k) m))
