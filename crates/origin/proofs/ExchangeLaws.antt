-- The origins of a value after a change of its children: one stretch is exchanged.
use mathlib.Core.Path.{◌≡◌, refl, ap, ap₂, sym, ◌∙◌}
use mathlib.Core.List.{List, [], ◌∷◌, ◌++◌, append_assoc, append-nil}
use Prim.Native.Nat.{ℕ, zero, suc, ◌+◌, ◌<◌}
use native.Mathlib.Nat.{zero-add, suc-add}
use lib.ListN.{replicate}
use Rattle.spec.specs.Bytes.{Text}
use Rattle.spec.specs.Forest.{none, tree, single, size, count, before, from, insert_at, remove_at, replace_at, ◌⧺◌}
use Rattle.spec.specs.Value as Plain
use Rattle.spec.specs.Value.{Label}
use Rattle.spec.proofs.SplitLaws.{split_at, split}
use Rattle.tape.specs.Map.{map_forest}
use Rattle.origin.specs.Value as Value
use Rattle.origin.specs.Value.{Members, leaf, named, value_of, painted_entry, painted, origins_of, origins}
use Rattle.origin.specs.Pointer.{child}
use Rattle.origin.specs.Operation.{with_kids, put}
use Rattle.origin.specs.Claims.{Exchanged}

-- ---- lists
replicate_++ : (m n k : ℕ) → replicate m k ++ replicate n k ≡ replicate (m + n) k
replicate_++ zero n k = ap (λ j. replicate j k) (sym (zero-add n))
replicate_++ (suc m) n k = ap (λ xs. k ∷ xs) (replicate_++ m n k) ∙ ap (λ j. replicate j k) (sym (suc-add m n))

-- inside a longer list
pub exchanged_inside : {old new b a : List ℕ} (left right : List ℕ) → Exchanged old new b a → Exchanged old new (left ++ (b ++ right)) (left ++ (a ++ right))
exchanged_inside {old} {new} {b} {a} left right e =
    record {
      left = left ++ e.left;
      right = e.right ++ right;
      was = ap (λ xs. left ++ (xs ++ right)) e.was ∙ regroup e.left old e.right;
      is = ap (λ xs. left ++ (xs ++ right)) e.is ∙ regroup e.left new e.right;
    }
  where
    regroup : (l m r : List ℕ) → left ++ ((l ++ (m ++ r)) ++ right) ≡ (left ++ l) ++ (m ++ (r ++ right))
    regroup l m r = simp append_assoc

pub exchanged_whole : (old new : List ℕ) → Exchanged old new old new
exchanged_whole old new = record { left = []; right = []; was = sym (append-nil old); is = sym (append-nil new) }

-- ---- forests
pub origins_of_⧺ : (f g : Members) → origins_of (f ⧺ g) ≡ origins_of f ++ origins_of g
unfolding origins_of ◌⧺◌
origins_of_⧺ none g = refl
origins_of_⧺ (tree e kids rest) g = simp (origins_of_⧺ rest g, append_assoc)

-- a value under a name, between others
pub origins_of-between : (f g : Members) (n : Text) (x : Value.Value) → origins_of (f ⧺ single (named n x) ⧺ g) ≡ origins_of f ++ (origins x ++ origins_of g)
unfolding origins_of origins ◌⧺◌
origins_of-between f g n x = origins_of_⧺ f (single (named n x) ⧺ g)

pub origins_of-cut : (k : ℕ) (f : Members) → origins_of f ≡ origins_of (before k f) ++ origins_of (from k f)
origins_of-cut k f = ap origins_of (split_at k f) ∙ origins_of_⧺ (before k f) (from k f)

pub origins_of_kth : (k : ℕ) (v : Value.Value) → k < count v.kids →
    origins_of v.kids ≡ origins_of (before k v.kids) ++ (origins (value_of (child k v)) ++ origins_of (from (suc k) v.kids))
unfolding origins_of origins child
origins_of_kth k v there =
    ap origins_of (split (named [] (leaf 0 Label.null_literal)) k v.kids there) ∙ origins_of_⧺ (before k v.kids) _

-- one origin for all
pub origins_of-painted : (k : ℕ) (f : Plain.Members) → origins_of (map_forest (painted_entry k) f) ≡ replicate (size f) k
unfolding origins_of map_forest size
origins_of-painted k none = refl
origins_of-painted k (tree e kids rest) =
    ap (λ xs. k ∷ xs) (ap₂ ◌++◌ (origins_of-painted k kids) (origins_of-painted k rest) ∙ replicate_++ (size kids) (size rest) k)

pub origins-painted : (k : ℕ) (v : Plain.Value) → origins (painted k v) ≡ replicate (Plain.nodes v) k
unfolding origins Plain.nodes
origins-painted k v = ap (λ xs. k ∷ xs) (origins_of-painted k v.kids)

-- ---- the changes of a value's children
module _ (k : ℕ) (v : Value.Value) where
  pub exchanged_insert : (n : Text) (x : Value.Value) → Exchanged [] (origins x) (origins v) (origins (with_kids v (insert_at k (named n x) v.kids)))
  unfolding origins insert_at
  exchanged_insert n x =
      record {
        left = v.origin ∷ origins_of (before k v.kids);
        right = origins_of (from k v.kids);
        was = ap (λ xs. v.origin ∷ xs) (origins_of-cut k v.kids);
        is = ap (λ xs. v.origin ∷ xs) (origins_of-between (before k v.kids) (from k v.kids) n x);
      }

  module _ (there : k < count v.kids) where
    pub exchanged_remove : Exchanged (origins (value_of (child k v))) [] (origins v) (origins (with_kids v (remove_at k v.kids)))
    unfolding origins remove_at
    exchanged_remove =
        record {
          left = v.origin ∷ origins_of (before k v.kids);
          right = origins_of (from (suc k) v.kids);
          was = ap (λ xs. v.origin ∷ xs) (origins_of_kth k v there);
          is = ap (λ xs. v.origin ∷ xs) (origins_of_⧺ (before k v.kids) (from (suc k) v.kids));
        }

    -- what is exchanged in the child is exchanged in the value
    pub exchanged_put : {old new : List ℕ} (x : Value.Value) → Exchanged old new (origins (value_of (child k v))) (origins x) →
        Exchanged old new (origins v) (origins (put k x v))
    unfolding origins put replace_at
    exchanged_put x e =
        let i = exchanged_inside (v.origin ∷ origins_of (before k v.kids)) (origins_of (from (suc k) v.kids)) e in
        record {
          left = i.left;
          right = i.right;
          was = ap (λ xs. v.origin ∷ xs) (origins_of_kth k v there) ∙ i.was;
          is = ap (λ xs. v.origin ∷ xs) (origins_of-between (before k v.kids) (from (suc k) v.kids) (child k v).root.name x) ∙ i.is;
        }
