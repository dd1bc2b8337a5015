-- A removal breaks no limit: what is left of a value is no larger than it was.
use Rattle.std.specs.Prelude.{if◌then◌else◌}
use Prim.Native.Nat.{ℕ, zero, suc, ◌≤◌}
use native.Mathlib.Omega.{arith}
use mathlib.Core.Path.{◌≡◌, refl, ap, sym, ◌∙◌, subst}
use mathlib.Core.Bool.{Bool, true, false}
use mathlib.Core.List.{[], ◌∷◌}
use Rattle.spec.specs.Outcome.{Outcome, ok, refused, ◌>>=◌}
use Rattle.spec.specs.Limits.{max_depth, max_nodes}
use Rattle.spec.specs.Bytes.{Text}
use Rattle.spec.specs.Forest.{none, tree, before, from, remove_at, ◌⧺◌}
use Rattle.spec.specs.Value as Value
use Rattle.spec.specs.Value.{Label, Members, leaf, named, value_of, is_container, levels, depths, depth, nodes}
use Rattle.spec.specs.Pointer.{Tokens, child_at, child, farther}
use Rattle.spec.specs.Operation.{put, with_kids, at_parent, remove_child, remove_at_path}
use Rattle.spec.proofs.OutcomeLaws.{refused≢ok, both_ok}
use Rattle.spec.proofs.FartherLaws.{farther_ok}
use Rattle.spec.proofs.ChildLaws.{child_there, depth-child, depth-put}
use Rattle.origin.specs.Value as Origin
use Rattle.origin.specs.Value.{forget}
use Rattle.origin.specs.Operation as Origins
use Rattle.origin.specs.Forgetting.{forgotten}
use Rattle.origin.proofs.ForgetLaws.{forget-remove_at_path}
use Rattle.tape.specs.Lent.{Table}
use Rattle.tape.proofs.Forests.{size-remove_at}
use Rattle.changes.specs.Document.{Document, judged, Bearing, judged_bearing}
use Rattle.changes.proofs.LimitLaws.{nodes-put, judged_fits, judged_refused, bearing_fits}
use Rattle.changes.proofs.DocumentLaws.{few_nodes}

-- a value with no more containers nested, and no more nodes, than another
record NoLarger (w v : Value.Value) : Type 0 where
  deep : depth w ≤ depth v
  many : nodes w ≤ nodes v

depths-remove_at : (k : ℕ) (f : Members) → depths (remove_at k f) ≤ depths f
unfolding remove_at before from ◌⧺◌ depths
depths-remove_at zero none = omega arith
depths-remove_at (suc k) none = omega arith
depths-remove_at zero (tree e kids rest) = omega arith
depths-remove_at (suc k) (tree e kids rest) = let ih = depths-remove_at k rest in omega arith

levels_le : (l : Label) (m n : ℕ) → m ≤ n → levels l m ≤ levels l n
unfolding levels
levels_le l m n h = go (is_container l)
  where
    go : (b : Bool) → (if b then suc m else 0) ≤ (if b then suc n else 0)
    go true = omega arith
    go false = omega arith

module _ (t : Text) (v : Value.Value) where
  child_removed : (w : Value.Value) → remove_child t v ≡ ok w → NoLarger w v
  unfolding remove_child depth nodes
  child_removed w h =
      let (k, there, e) = both_ok (child_at t v) _ w h in
      let s = size-remove_at (named [] (leaf Label.null_literal)) k v.kids (child_there t v k there) in
      let same : with_kids v (remove_at k v.kids) ≡ w = cc in
      subst (λ u. NoLarger u v) same
      (record { deep = levels_le v.label (depths (remove_at k v.kids)) (depths v.kids) (depths-remove_at k v.kids); many = omega (arith, s) })

  -- a child made no larger makes its parent no larger
  child-put : (k : ℕ) (w : Value.Value) → child_at t v ≡ ok k → NoLarger w (value_of (child k v)) → NoLarger (put k w v) v
  child-put k w there n =
      record {
        deep = omega (arith, n.deep, depth-child t v k there, (depth-put t w v k there).1);
        many = omega (arith, n.many, nodes-put t v k there w);
      }

parent_removed : (t : Text) (ts : Tokens) (v w : Value.Value) → at_parent remove_child t ts v ≡ ok w → NoLarger w v
unfolding at_parent
parent_removed t [] v w h = child_removed t v w h
parent_removed t (u ∷ ts) v w h =
    let (k, there, e) = both_ok (child_at t v) _ w h in
    let (x, f, g) = both_ok (farther (at_parent remove_child u ts (value_of (child k v)))) _ w e in
    let same : put k x v ≡ w = cc in
    subst (λ y. NoLarger y v) same (child-put t v k x there (parent_removed u ts (value_of (child k v)) x (farther_ok _ f)))

removed_no_larger : (ts : Tokens) (v w : Value.Value) → remove_at_path ts v ≡ ok w → NoLarger w v
unfolding remove_at_path
removed_no_larger [] v w h = absurd (refused≢ok h)
removed_no_larger (t ∷ ts) v w h = parent_removed t ts v w h

judged_removed : (ts : Tokens) (v : Value.Value) → depth v ≤ max_depth → nodes v ≤ max_nodes → judged (remove_at_path ts v) ≡ remove_at_path ts v
judged_removed ts v d n = go (remove_at_path ts v) refl
  where
    go : (o : Outcome Value.Value) → remove_at_path ts v ≡ o → judged o ≡ o
    go (ok w) h = let s = removed_no_larger ts v w h in judged_fits w (omega arith) (omega arith)
    go (refused number place) h = judged_refused number place

pub document_removed : {w : Table} {used : ℕ} {v : Value.Value} → Document w used v → (ts : Tokens) → judged (remove_at_path ts v) ≡ remove_at_path ts v
document_removed {v = v} d ts = judged_removed ts v d.shallow (few_nodes d)

-- with its origins
pub bearing_removed : {w : Table} {used : ℕ} {v : Origin.Value} → Bearing w used v → (ts : Tokens)
    → judged_bearing (Origins.remove_at_path ts v) ≡ Origins.remove_at_path ts v
unfolding forgotten ◌>>=◌
bearing_removed {v = v} b ts = go (Origins.remove_at_path ts v) refl
  where
    go : (o : Outcome Origin.Value) → Origins.remove_at_path ts v ≡ o → judged_bearing o ≡ o
    go (ok w) h =
        let s = removed_no_larger ts (forget v) (forget w) (sym (forget-remove_at_path ts v) ∙ ap forgotten h) in
        bearing_fits w (omega (arith, s.deep, b.document.shallow)) (omega (arith, s.many, few_nodes b.document))
    go (refused number place) h = refl
