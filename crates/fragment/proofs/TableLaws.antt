-- The table of kept bytes: its rule is one test that is computed over all of it.
use mathlib.Core.Path.{◌≡◌, refl, subst, sym, ◌∙◌}
use mathlib.Core.Bool.{Bool, true, false, not, ◌&&◌}
use mathlib.Core.List.{List, [], ◌∷◌}
use Prim.Native.Nat.{ℕ, zero, suc, ◌+◌, ◌<◌}
use native.Mathlib.Nat.{add-zero, zero-add, add-suc, suc-add, le_of_suc-le-suc, not-suc-le-zero}
use lib.Dec.{eqb}
use lib.ListN.{length, get_or}
use Rattle.spec.specs.Bytes.{ascii, within}
use Rattle.spec.specs.Numbers.{is_digit}
use Rattle.lexer.proofs.Tests.{and_both}
use Rattle.fragment.specs.Kept.{is_kept, is_pchar, is_sub_delim, is_unreserved, is_alpha, one_of}
use Rattle.fragment.specs.Scan.{KeptTable}

-- two tests give the same
unfoldable same : Bool → Bool → Bool
same true b = b
same false b = not b

same_is : (a b : Bool) → same a b ≡ true → a ≡ b
unfolding same
same_is true b e = sym e
same_is false true e = e
same_is false false e = refl

-- at each entry and its place, counted from i
unfoldable every : ℕ → List ℕ → Bool
every i [] = true
every i (x ∷ xs) = same (eqb x i) (is_kept i) && every (suc i) xs

from : (xs : List ℕ) (i : ℕ) → every i xs ≡ true → (k : ℕ) → k < length xs → eqb (get_or xs k 0) (i + k) ≡ is_kept (i + k)
unfolding every
from [] i t k h = absurd (not-suc-le-zero h)
from (x ∷ xs) i t zero h =
    subst (λ (m : ℕ). eqb x m ≡ is_kept m) (sym (add-zero i)) (same_is _ _ (and_both (same (eqb x i) (is_kept i)) (every (suc i) xs) t).0)
from (x ∷ xs) i t (suc k) h =
    subst (λ (m : ℕ). eqb (get_or xs k 0) m ≡ is_kept m) (suc-add i k ∙ sym (add-suc i k))
    (from xs (suc i) (and_both (same (eqb x i) (is_kept i)) (every (suc i) xs) t).1 k (le_of_suc-le-suc h))

unfoldable pub tested : List ℕ → Bool
unfolding every same is_kept is_pchar is_sub_delim is_unreserved is_alpha one_of is_digit within ascii
tested table = every 0 table

pub kept_table : (table : List ℕ) → length table ≡ 256 → tested table ≡ true → KeptTable table
unfolding tested
kept_table table long t = record { rule = λ b h. subst (λ (m : ℕ). eqb (get_or table b 0) m ≡ is_kept m) (zero-add b) (from table 0 t b (rw long h)) }
