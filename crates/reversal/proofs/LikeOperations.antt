-- Alike documents answer every operation alike: both refuse it alike, or their results are alike.
use Rattle.std.specs.Prelude.{if◌then◌else◌}
use mathlib.Core.Path.{◌≡◌, refl}
use mathlib.Core.Bool.{Bool, true, false}
use mathlib.Core.List.{[], ◌∷◌}
use Prim.Native.Nat.{ℕ, suc}
use lib.Dec.{leb}
use Rattle.spec.specs.Outcome.{Outcome, ok, refused, ◌>>=◌}
use Rattle.spec.specs.Bytes.{Text}
use Rattle.spec.specs.Limits.{max_depth, max_nodes}
use Rattle.spec.specs.Forest.{count, insert_at}
use Rattle.spec.specs.Value as Value
use Rattle.spec.specs.Value.{Label, is_array, is_object, named, value_of, depth, nodes}
use Rattle.spec.specs.Equality.{equal}
use Rattle.spec.specs.Pointer.{Tokens, child_at, child, farther, walk, element_below, is_dash}
use Rattle.spec.specs.Operation.{Kind, Operation, with_kids, at_parent, insert_element, insert_member, insert_child, remove_child, replace_child}
use Rattle.spec.specs.Operation.{add_at, remove_at_path}
use Rattle.spec.specs.Operation.{replace_at_path, move_to, copy_to, test_at, perform, not_too_deep, not_too_large, limited}
use Rattle.spec.specs.Proper as Proper
use Rattle.spec.specs.Proper.{Proper}
use Rattle.claims.specs.Operations.{Same, both, neither, removing}
use Rattle.claims.proofs.OperationsTheorem.{proper_child}
use Rattle.claims.proofs.ProperOperations.{AllCharacters, no_tokens, ProperOperation, walk_proper, perform_proper}
use Rattle.reversal.proofs.Like.{Labels, LikeValues, values_refl, like_count, object-like, array-like, nodes_like, depth_like}
use Rattle.reversal.proofs.LikeChildren.{ChildLike, corresponding, missing, Corresponding, children_like, child_like, put_like, removed_like}
use Rattle.reversal.proofs.LikeChildren.{element_added, member-added}

pub removed_proper : (path : Tokens) (v w : Value.Value) → AllCharacters path → Proper v → remove_at_path path v ≡ ok w → Proper w
unfolding perform
removed_proper path v w a p h =
    perform_proper (removing path) v w
    (record { path_characters = a; from-characters = no_tokens; value-proper = record { allows = Proper.null_literal; items = Proper.empty } }) p h

module _ {L : Label → Label → Type 0} (laws : Labels L) where
  abbrev pub Answers : Outcome Value.Value → Outcome Value.Value → Type 0
  Answers o o' = Same (LikeValues L) o o'

  -- one step more on both sides
  then_like : {o o' : Outcome Value.Value} (next next' : Value.Value → Outcome Value.Value) → Answers o o' →
      ((v w : Value.Value) → o ≡ ok v → o' ≡ ok w → LikeValues L v w → Answers (next v) (next' w)) → Answers (o >>= next) (o' >>= next')
  unfolding ◌>>=◌
  then_like next next' (both r) f = f _ _ refl refl r
  then_like next next' neither f = neither

  -- behind one token more
  farther_like : {o o' : Outcome Value.Value} → Answers o o' → Answers (farther o) (farther o')
  unfolding farther
  farther_like (both r) = both r
  farther_like neither = neither

  -- one step after the child that a token names
  child_then : (t : Text) (v w : Value.Value) (next next' : ℕ → Outcome Value.Value) → Proper w → LikeValues L v w →
      ((k j : ℕ) → child_at t v ≡ ok k → child_at t w ≡ ok j → Corresponding laws (is_object v.label) v.kids w.kids k j → Answers (next k) (next' j)) →
      Answers (child_at t v >>= next) (child_at t w >>= next')
  unfolding ◌>>=◌
  child_then t v w next next' p r f = go (child_at t v) (child_at t w) refl refl (children_like laws t v w p r)
    where
      go : (o o' : Outcome ℕ) → child_at t v ≡ o → child_at t w ≡ o' → ChildLike laws v w o o' → Answers (o >>= next) (o' >>= next')
      go _ _ q q' (corresponding c) = f _ _ q q' c
      go _ _ q q' missing = neither

  pub walk_like : (ts : Tokens) (v w : Value.Value) → Proper v → Proper w → LikeValues L v w → Answers (walk ts v) (walk ts w)
  unfolding walk
  walk_like [] v w p q r = both r
  walk_like (t ∷ ts) v w p q r =
      child_then t v w _ _ q r λ k j h i c.
      farther_like
      (walk_like ts (value_of (child k v)) (value_of (child j w)) (proper_child t k v h p) (proper_child t j w i q) (child_like laws r c))

  -- changes at a parent
  abbrev ChangesAlike : (Text → Value.Value → Outcome Value.Value) → (Text → Value.Value → Outcome Value.Value) → Type 0
  ChangesAlike change change' = (t : Text) (v w : Value.Value) → Proper v → Proper w → LikeValues L v w → Answers (change t v) (change' t w)

  parent_like : (change change' : Text → Value.Value → Outcome Value.Value) → ChangesAlike change change' → (t : Text) (ts : Tokens) (v w : Value.Value) →
      Proper v → Proper w → LikeValues L v w → Answers (at_parent change t ts v) (at_parent change' t ts w)
  unfolding at_parent
  parent_like change change' alike t [] v w p q r = alike t v w p q r
  parent_like change change' alike t (u ∷ ts) v w p q r =
      child_then t v w _ _ q r λ k j h i c.
      let below = child_like laws r c in
      then_like _ _
      (farther_like (parent_like change change' alike u ts (value_of (child k v)) (value_of (child j w))
      (proper_child t k v h p) (proper_child t j w i q) below))
      λ x y _ _ s. both (put_like laws r c s)

  remove_like : ChangesAlike remove_child remove_child
  unfolding remove_child
  remove_like t v w p q r = child_then t v w _ _ q r λ k j h i c. both (removed_like laws r c)

  replace_like : {x y : Value.Value} → LikeValues L x y → ChangesAlike (replace_child x) (replace_child y)
  unfolding replace_child
  replace_like s t v w p q r = child_then t v w _ _ q r λ k j h i c. both (put_like laws r c s)

  insert_element_like : {x y : Value.Value} → LikeValues L x y → (t : Text) (v w : Value.Value) → is_array v.label ≡ true → LikeValues L v w →
      count v.kids ≡ count w.kids → Answers (insert_element x t v) (insert_element y t w)
  unfolding insert_element ◌>>=◌
  insert_element_like {x} {y} s t v w a r n = rw n (go (if is_dash t then ok (count w.kids) else element_below (suc (count w.kids)) t))
    where
      go : (o : Outcome ℕ) →
          Answers (o >>= λ k. ok (with_kids v (insert_at k (named [] x) v.kids))) (o >>= λ k. ok (with_kids w (insert_at k (named [] y) w.kids)))
      go (ok k) = both (element_added laws k a r s)
      go (refused number place) = neither

  insert_like : {x y : Value.Value} → LikeValues L x y → ChangesAlike (insert_child x) (insert_child y)
  unfolding insert_child
  insert_like {x} {y} s t v w p q r =
      rw (← array-like laws r.labels, ← object-like laws r.labels) (go (is_array v.label) (is_object v.label) refl refl)
    where
      go : (a o : Bool) → is_array v.label ≡ a → is_object v.label ≡ o →
          Answers (if a then insert_element x t v else if o then ok (insert_member x t v) else refused 11 0)
          (if a then insert_element y t w else if o then ok (insert_member y t w) else refused 11 0)
      go true o e f = insert_element_like s t v w e r (like_count laws r.kids)
      go false true e f = both (member-added laws t f q r s)
      go false false e f = neither

  -- The operations at their tokens

  pub add_like : (path : Tokens) {x y : Value.Value} (v w : Value.Value) → LikeValues L x y → Proper v → Proper w → LikeValues L v w →
      Answers (add_at path x v) (add_at path y w)
  unfolding add_at
  add_like [] v w s p q r = both s
  add_like (t ∷ ts) v w s p q r = parent_like _ _ (insert_like s) t ts v w p q r

  pub remove_path_like : (path : Tokens) (v w : Value.Value) → Proper v → Proper w → LikeValues L v w → Answers (remove_at_path path v) (remove_at_path path w)
  unfolding remove_at_path
  remove_path_like [] v w p q r = neither
  remove_path_like (t ∷ ts) v w p q r = parent_like _ _ remove_like t ts v w p q r

  replace_path_like : (path : Tokens) {x y : Value.Value} (v w : Value.Value) → LikeValues L x y → Proper v → Proper w → LikeValues L v w →
      Answers (replace_at_path path x v) (replace_at_path path y w)
  unfolding replace_at_path
  replace_path_like [] v w s p q r = both s
  replace_path_like (t ∷ ts) v w s p q r = parent_like _ _ (replace_like s) t ts v w p q r

  move_like : (from path : Tokens) (v w : Value.Value) → AllCharacters from → Proper v → Proper w → LikeValues L v w →
      Answers (move_to from path v) (move_to from path w)
  unfolding move_to
  move_like [] path v w a p q r = both r
  move_like (t ∷ ts) path v w a p q r =
      then_like _ _ (walk_like (t ∷ ts) v w p q r) λ x y _ _ s.
      then_like _ _ (remove_path_like (t ∷ ts) v w p q r) λ v' w' h i r'.
      add_like path v' w' s (removed_proper (t ∷ ts) v v' a p h) (removed_proper (t ∷ ts) w w' a q i) r'

  copy_like : (from path : Tokens) (v w : Value.Value) → Proper v → Proper w → LikeValues L v w → Answers (copy_to from path v) (copy_to from path w)
  unfolding copy_to
  copy_like from path v w p q r = then_like _ _ (walk_like from v w p q r) λ x y _ _ s. add_like path v w s p q r

  -- The limits

  depth-kept : {v w : Value.Value} → LikeValues L v w → Answers (not_too_deep v) (not_too_deep w)
  unfolding not_too_deep
  depth-kept {v} {w} r = rw (depth_like laws r) (go (leb (depth w) max_depth))
    where
      go : (b : Bool) → Answers (if b then ok v else refused 5 0) (if b then ok w else refused 5 0)
      go true = both r
      go false = neither

  nodes-kept : {v w : Value.Value} → LikeValues L v w → Answers (not_too_large v) (not_too_large w)
  unfolding not_too_large
  nodes-kept {v} {w} r = rw (nodes_like laws r) (go (leb (nodes w) max_nodes))
    where
      go : (b : Bool) → Answers (if b then ok v else refused 6 0) (if b then ok w else refused 6 0)
      go true = both r
      go false = neither

  -- A relation that no test sees: then every operation is answered alike.
  module _ (tests : (x u w : Value.Value) → Proper x → Proper u → Proper w → LikeValues L u w → equal u x ≡ equal w x) where
    test_like : (path : Tokens) (x v w : Value.Value) → Proper x → Proper v → Proper w → LikeValues L v w → Answers (test_at path x v) (test_at path x w)
    unfolding test_at
    test_like path x v w px p q r =
        then_like _ _ (walk_like path v w p q r) λ u u' h i s.
        rw (tests x u u' px (walk_proper path v u p h) (walk_proper path w u' q i) s) (go (equal u' x))
      where
        go : (b : Bool) → Answers (if b then ok v else refused 15 0) (if b then ok w else refused 15 0)
        go true = both r
        go false = neither

    pub perform_like : (o : Operation) (v w : Value.Value) → ProperOperation o → Proper v → Proper w → LikeValues L v w → Answers (perform o v) (perform o w)
    unfolding perform
    perform_like o v w a p q r = go o.kind
      where
        go : (k : Kind) →
            Answers (perform (record { kind = k; path = o.path; from = o.from; value = o.value }) v)
            (perform (record { kind = k; path = o.path; from = o.from; value = o.value }) w)
        go Kind.add = add_like o.path v w (values_refl laws o.value) p q r
        go Kind.remove = remove_path_like o.path v w p q r
        go Kind.replace = replace_path_like o.path v w (values_refl laws o.value) p q r
        go Kind.move = move_like o.from o.path v w a.from-characters p q r
        go Kind.copy = copy_like o.from o.path v w p q r
        go Kind.test = test_like o.path o.value v w a.value-proper p q r

    -- EVERY OPERATION IS ANSWERED ALIKE, with the limits
    pub limited_like : (o : Operation) (v w : Value.Value) → ProperOperation o → Proper v → Proper w → LikeValues L v w → Answers (limited o v) (limited o w)
    unfolding limited
    limited_like o v w a p q r =
        then_like _ _ (then_like _ _ (perform_like o v w a p q r) λ x y _ _ s. depth-kept s) λ x y _ _ s. nodes-kept s
