-- A tree taken out of a forest, and another put in: in the same place, or at the end.
use mathlib.Core.Path.{◌≡◌, refl, ap}
use mathlib.Core.Bool.{Bool, true}
use Prim.Native.Nat.{ℕ, zero, suc, ◌<◌}
use native.Mathlib.Omega.{arith}
use Rattle.spec.specs.Forest.{Forest, none, tree, Tree, single, count, before, from, insert_at, remove_at, replace_at, ◌⧺◌}
use Rattle.spec.specs.Value.{Entry, Members, is_object}
use Rattle.spec.proofs.SplitLaws as SplitLaws
use Rattle.claims.specs.Equality.{Permuted, empty, same, swap, more}

module _ {A : Type 0} where
  pub count-remove_at : (k : ℕ) (f : Forest A) → k < count f → suc (count (remove_at k f)) ≡ count f
  unfolding count remove_at before from ◌⧺◌
  count-remove_at k none h = absurd (omega arith)
  count-remove_at zero (tree a kids rest) h = refl
  count-remove_at (suc k) (tree a kids rest) h = ap suc (count-remove_at k rest (omega arith))

  pub insert_removed : (k : ℕ) (t : Tree A) (f : Forest A) → k < count f → insert_at k t (remove_at k f) ≡ replace_at k t f
  unfolding count remove_at insert_at replace_at before from ◌⧺◌
  insert_removed k t none h = absurd (omega arith)
  insert_removed zero t (tree a kids rest) h = refl
  insert_removed (suc k) t (tree a kids rest) h = ap (tree a kids) (insert_removed k t rest (omega arith))

  pub insert_last : (t : Tree A) (f : Forest A) → insert_at (count f) t f ≡ f ⧺ single t
  insert_last t f = SplitLaws.insert_last t f

pub permuted_refl : (object : Bool) (f : Members) → Permuted object f f
permuted_refl object none = empty
permuted_refl object (tree e kids rest) = same (permuted_refl (is_object e.label) kids) (permuted_refl object rest)

-- a member moved to the end
to_last : (t : Tree Entry) (f : Members) → Permuted true (single t ⧺ f) (f ⧺ single t)
unfolding ◌⧺◌
to_last t none = permuted_refl true (single t)
to_last t (tree e kids rest) = more swap (same (permuted_refl _ kids) (to_last t rest))

pub replaced_last : (k : ℕ) (t : Tree Entry) (f : Members) → k < count f → Permuted true (replace_at k t f) (remove_at k f ⧺ single t)
unfolding count remove_at replace_at before from ◌⧺◌
replaced_last k t none h = absurd (omega arith)
replaced_last zero t (tree e kids rest) h = to_last t rest
replaced_last (suc k) t (tree e kids rest) h = same (permuted_refl _ kids) (replaced_last k t rest (omega arith))
