-- What is left after a removal is no deeper and has no more nodes.
use Rattle.std.specs.Prelude.{if◌then◌else◌}
use mathlib.Core.Path.{◌≡◌, subst}
use mathlib.Core.Bool.{Bool, true, false}
use mathlib.Core.List.{[], ◌∷◌}
use Prim.Native.Nat.{ℕ, zero, suc, ◌<◌, ◌≤◌}
use native.Mathlib.Omega.{arith}
use Rattle.spec.specs.Outcome.{ok}
use Rattle.spec.specs.Bytes.{Text}
use Rattle.spec.specs.Forest.{none, tree, Tree, count, size, before, from, remove_at, replace_at, nth, ◌⧺◌}
use Rattle.spec.specs.Value as Value
use Rattle.spec.specs.Value.{Label, Entry, Members, is_container, levels, depths, depth, nodes, named, value_of}
use Rattle.spec.specs.Pointer.{Tokens, child_at, child, farther}
use Rattle.spec.specs.Operation.{with_kids, put, at_parent, remove_child, remove_at_path}
use Rattle.spec.proofs.OutcomeLaws.{refused≢ok, both_ok}
use Rattle.spec.proofs.FartherLaws.{farther_ok}
use Rattle.spec.proofs.ChildLaws.{child_there}

pub record NoLarger (w v : Value.Value) : Type 0 where
  pub deep : depth w ≤ depth v
  pub many : nodes w ≤ nodes v

depths-remove_at : (k : ℕ) (f : Members) → depths (remove_at k f) ≤ depths f
unfolding depths remove_at before from ◌⧺◌
depths-remove_at zero none = omega arith
depths-remove_at (suc k) none = omega arith
depths-remove_at zero (tree e kids rest) = omega arith
depths-remove_at (suc k) (tree e kids rest) = omega (arith, depths-remove_at k rest)

size-remove_at : (k : ℕ) (f : Members) → size (remove_at k f) ≤ size f
unfolding size remove_at before from ◌⧺◌
size-remove_at zero none = omega arith
size-remove_at (suc k) none = omega arith
size-remove_at zero (tree e kids rest) = omega arith
size-remove_at (suc k) (tree e kids rest) = omega (arith, size-remove_at k rest)

depths_smaller : (z : Tree Entry) (n : Text) (x : Value.Value) (k : ℕ) (f : Members) → k < count f → depth x ≤ depth (value_of (nth z k f)) →
    depths (replace_at k (named n x) f) ≤ depths f
unfolding count nth replace_at before from ◌⧺◌ depths depth
depths_smaller z n x k none h d = absurd (omega arith)
depths_smaller z n x zero (tree e kids rest) h d = omega arith
depths_smaller z n x (suc k) (tree e kids rest) h d = omega (arith, depths_smaller z n x k rest (omega arith) d)

size_smaller : (z : Tree Entry) (n : Text) (x : Value.Value) (k : ℕ) (f : Members) → k < count f → nodes x ≤ nodes (value_of (nth z k f)) →
    size (replace_at k (named n x) f) ≤ size f
unfolding count nth replace_at before from ◌⧺◌ size nodes
size_smaller z n x k none h d = absurd (omega arith)
size_smaller z n x zero (tree e kids rest) h d = omega arith
size_smaller z n x (suc k) (tree e kids rest) h d = omega (arith, size_smaller z n x k rest (omega arith) d)

levels_grow : (l : Label) (m n : ℕ) → m ≤ n → levels l m ≤ levels l n
unfolding levels
levels_grow l m n h = go (is_container l)
  where
    go : (b : Bool) → (if b then suc m else 0) ≤ (if b then suc n else 0)
    go true = omega arith
    go false = omega arith

fewer_kids : (v : Value.Value) (f : Members) → depths f ≤ depths v.kids → size f ≤ size v.kids → NoLarger (with_kids v f) v
unfolding depth nodes
fewer_kids v f d s = record { deep = levels_grow v.label _ _ d; many = omega arith }

put_smaller : (k : ℕ) (x v : Value.Value) → k < count v.kids → NoLarger x (value_of (child k v)) → NoLarger (put k x v) v
unfolding put child
put_smaller k x v h s = fewer_kids v _ (depths_smaller _ _ x k v.kids h s.deep) (size_smaller _ _ x k v.kids h s.many)

left_parent : (t : Text) (ts : Tokens) (v w : Value.Value) → at_parent remove_child t ts v ≡ ok w → NoLarger w v
unfolding at_parent remove_child
left_parent t [] v w h =
    let (k, e, i) = both_ok (child_at t v) _ w h in
    let same : with_kids v (remove_at k v.kids) ≡ w = cc in
    subst (λ u. NoLarger u v) same (fewer_kids v _ (depths-remove_at k v.kids) (size-remove_at k v.kids))
left_parent t (u ∷ ts) v w h =
    let (k, e, i) = both_ok (child_at t v) _ w h in
    let (y, f, j) = both_ok (farther (at_parent remove_child u ts (value_of (child k v)))) _ w i in
    let same : put k y v ≡ w = cc in
    subst (λ u. NoLarger u v) same (put_smaller k y v (child_there t v k e) (left_parent u ts (value_of (child k v)) y (farther_ok _ f)))

pub left_no_larger : (path : Tokens) (v w : Value.Value) → remove_at_path path v ≡ ok w → NoLarger w v
unfolding remove_at_path
left_no_larger [] v w h = absurd (refused≢ok h)
left_no_larger (t ∷ ts) v w h = left_parent t ts v w h
