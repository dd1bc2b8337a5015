-- Origins forgotten: of a forest, of a value's children and of the steps of an operation.
use Rattle.std.specs.Prelude.{if◌then◌else◌}
use mathlib.Core.Path.{◌≡◌, refl, ap, ap₂, ◌∙◌}
use mathlib.Core.Bool.{Bool, true, false}
use mathlib.Core.List.{[], ◌∷◌}
use Prim.Native.Nat.{ℕ, suc}
use lib.Dec.{leb, ltb}
use Rattle.spec.specs.Outcome.{Outcome, ok, refused, ◌>>=◌}
use Rattle.spec.specs.Limits.{max_depth, max_nodes}
use Rattle.spec.specs.Bytes.{Text}
use Rattle.spec.specs.Forest.{Forest, none, tree, count, insert_at, remove_at, replace_at}
use Rattle.spec.specs.Value as Plain
use Rattle.spec.specs.Value.{is_array, is_object}
use Rattle.spec.specs.Equality.{equal}
use Rattle.spec.specs.Pointer as PlainPointer
use Rattle.spec.specs.Pointer.{Tokens, farther, is_dash, element_below}
use Rattle.spec.specs.Operation as PlainOperation
use Rattle.spec.specs.Operation.{Kind, add, remove, replace, move, copy, test, Operation}
use Rattle.tape.specs.Map.{map_forest, map_tree}
use Rattle.tape.proofs.Map.{count_map, map-nth, map-insert_at, map-remove_at, map-replace_at}
use Rattle.origin.specs.Value as Value
use Rattle.origin.specs.Value.{Members, forget_entry, forget_members, forget, painted_entry, painted, named, value_of, leaf}
use Rattle.origin.specs.Pointer.{child_at, child, walk}
use Rattle.origin.specs.Operation.{with_kids, put, at_parent, insert_element, insert_member, insert_child, remove_child, replace_child}
use Rattle.origin.specs.Operation.{add_at, remove_at_path, replace_at_path, move_to, copy_to, test_at, perform, not_too_deep, not_too_large, limited}
use Rattle.origin.specs.Forgetting.{forgotten}

-- what a forest's nodes bear, replaced twice
pub map-map : {A B C : Type 0} (g : B → C) (f : A → B) (x : Forest A) → map_forest g (map_forest f x) ≡ map_forest (λ a. g (f a)) x
unfolding map_forest
map-map g f none = refl
map-map g f (tree a kids rest) = ap₂ (tree (g (f a))) (map-map g f kids) (map-map g f rest)

pub forget_members_lem : (k : ℕ) (f : Plain.Members) → forget_members (map_forest (painted_entry k) f) ≡ f
unfolding map_forest
forget_members_lem k none = refl
forget_members_lem k (tree e kids rest) = ap₂ (tree e) (forget_members_lem k kids) (forget_members_lem k rest)

pub forget-painted : (k : ℕ) (v : Plain.Value) → forget (painted k v) ≡ v
forget-painted k v = ap (λ f. record { label = v.label; kids = f }) (forget_members_lem k v.kids)

-- ---- a value's children
pub forget-child : (k : ℕ) (v : Value.Value) → map_tree forget_entry (child k v) ≡ PlainPointer.child k (forget v)
unfolding child map_forest PlainPointer.child
forget-child k v = map-nth forget_entry (named [] (leaf 0 Plain.Label.null_literal)) k v.kids

pub forget-value_of : (k : ℕ) (v : Value.Value) → forget (value_of (child k v)) ≡ Plain.value_of (PlainPointer.child k (forget v))
forget-value_of k v = ap (λ t. Plain.value_of t) (forget-child k v)

pub forget-put : (k : ℕ) (x v : Value.Value) → forget (put k x v) ≡ PlainOperation.put k (forget x) (forget v)
unfolding put PlainOperation.put
forget-put k x v =
    ap (PlainOperation.with_kids (forget v))
    (map-replace_at forget_entry k (named (child k v).root.name x) v.kids ∙
    ap (λ t. replace_at k (Plain.named t.root.name (forget x)) (forget_members v.kids)) (forget-child k v))

pub forget_insert : (k : ℕ) (n : Text) (x v : Value.Value) →
    forget (with_kids v (insert_at k (named n x) v.kids)) ≡
    PlainOperation.with_kids (forget v) (insert_at k (Plain.named n (forget x)) (forget_members v.kids))
forget_insert k n x v = ap (PlainOperation.with_kids (forget v)) (map-insert_at forget_entry k (named n x) v.kids)

pub forget_remove : (k : ℕ) (v : Value.Value) →
    forget (with_kids v (remove_at k v.kids)) ≡ PlainOperation.with_kids (forget v) (remove_at k (forget_members v.kids))
forget_remove k v = ap (PlainOperation.with_kids (forget v)) (map-remove_at forget_entry k v.kids)

-- ---- outcomes
pub forgotten_then : (o : Outcome Value.Value) (f : Value.Value → Outcome Value.Value) (g : Plain.Value → Outcome Plain.Value) →
    ((v : Value.Value) → forgotten (f v) ≡ g (forget v)) → forgotten (o >>= f) ≡ forgotten o >>= g
unfolding forgotten ◌>>=◌
forgotten_then (ok v) f g same = same v
forgotten_then (refused number place) f g same = refl

pub forgotten-after : {A : Type 0} (o : Outcome A) (f : A → Outcome Value.Value) (g : A → Outcome Plain.Value) →
    ((a : A) → forgotten (f a) ≡ g a) → forgotten (o >>= f) ≡ o >>= g
unfolding forgotten ◌>>=◌
forgotten-after (ok a) f g same = same a
forgotten-after (refused number place) f g same = refl

pub forgotten-farther : (o : Outcome Value.Value) → forgotten (farther o) ≡ farther (forgotten o)
unfolding forgotten farther
forgotten-farther (ok v) = refl
forgotten-farther (refused number place) = refl

pub forgotten_if : (b : Bool) (x y : Outcome Value.Value) {x' y' : Outcome Plain.Value} → forgotten x ≡ x' → forgotten y ≡ y' →
    forgotten (if b then x else y) ≡ (if b then x' else y')
forgotten_if true x y p q = p
forgotten_if false x y p q = q

-- ---- walks
pub forget-walk : (ts : Tokens) (v : Value.Value) → forgotten (walk ts v) ≡ PlainPointer.walk ts (forget v)
unfolding walk PlainPointer.walk forgotten
forget-walk [] v = refl
forget-walk (t ∷ ts) v =
    forgotten-after (child_at t v) _ _
    (λ k. forgotten-farther (walk ts (value_of (child k v))) ∙
    ap farther (forget-walk ts (value_of (child k v)) ∙ ap (PlainPointer.walk ts) (forget-value_of k v)))

-- ---- a change at the parent
abbrev pub SameChange : (Text → Value.Value → Outcome Value.Value) → (Text → Plain.Value → Outcome Plain.Value) → Type 0
SameChange change change' = (t : Text) (v : Value.Value) → forgotten (change t v) ≡ change' t (forget v)

module _ (change : Text → Value.Value → Outcome Value.Value) (change' : Text → Plain.Value → Outcome Plain.Value) (same : SameChange change change') where
  pub forget-at_parent : (t : Text) (ts : Tokens) (v : Value.Value) → forgotten (at_parent change t ts v) ≡ PlainOperation.at_parent change' t ts (forget v)
  unfolding at_parent PlainOperation.at_parent forgotten
  forget-at_parent t [] v = same t v
  forget-at_parent t (u ∷ ts) v =
      forgotten-after (child_at t v) _ _
      (λ k. forgotten_then (farther (at_parent change u ts (value_of (child k v)))) (λ w. ok (put k w v)) (λ w. ok (PlainOperation.put k w (forget v)))
      (λ w. ap ok (forget-put k w v)) ∙
      ap (λ o. o >>= λ w. ok (PlainOperation.put k w (forget v)))
      (forgotten-farther (at_parent change u ts (value_of (child k v))) ∙
      ap farther (forget-at_parent u ts (value_of (child k v)) ∙ ap (PlainOperation.at_parent change' u ts) (forget-value_of k v))))

forget-insert_element : (x : Value.Value) → SameChange (insert_element x) (PlainOperation.insert_element (forget x))
unfolding insert_element PlainOperation.insert_element forgotten
forget-insert_element x t v =
    rw (count_map forget_entry v.kids)
    (forgotten-after (if is_dash t then ok (count v.kids) else element_below (suc (count v.kids)) t) _ _ (λ k. ap ok (forget_insert k [] x v)))

pub forget-insert_member : (x : Value.Value) (t : Text) (v : Value.Value) →
    forget (insert_member x t v) ≡ PlainOperation.insert_member (forget x) t (forget v)
unfolding insert_member PlainOperation.insert_member
forget-insert_member x t v = rw (count_map forget_entry v.kids) (go (ltb (Plain.find t (forget_members v.kids)) (count v.kids)))
  where
    j : ℕ
    j = Plain.find t (forget_members v.kids)

    go : (b : Bool) →
        forget (if b then put j x v else with_kids v (insert_at (count v.kids) (named t x) v.kids)) ≡
        (if b then PlainOperation.put j (forget x) (forget v) else
        PlainOperation.with_kids (forget v) (insert_at (count v.kids) (Plain.named t (forget x)) (forget_members v.kids)))
    go true = forget-put j x v
    go false = forget_insert (count v.kids) t x v

forget-insert_child : (x : Value.Value) → SameChange (insert_child x) (PlainOperation.insert_child (forget x))
unfolding insert_child PlainOperation.insert_child forgotten
forget-insert_child x t v =
    forgotten_if (is_array v.label) _ _ (forget-insert_element x t v)
    (forgotten_if (is_object v.label) (ok (insert_member x t v)) (refused 11 0) (ap ok (forget-insert_member x t v)) refl)

forget-remove_child : SameChange remove_child PlainOperation.remove_child
unfolding remove_child PlainOperation.remove_child forgotten
forget-remove_child t v = forgotten-after (child_at t v) _ _ (λ k. ap ok (forget_remove k v))

forget-replace_child : (x : Value.Value) → SameChange (replace_child x) (PlainOperation.replace_child (forget x))
unfolding replace_child PlainOperation.replace_child forgotten
forget-replace_child x t v = forgotten-after (child_at t v) _ _ (λ k. ap ok (forget-put k x v))

-- ---- the operations
pub forget-add_at : (path : Tokens) (x v : Value.Value) → forgotten (add_at path x v) ≡ PlainOperation.add_at path (forget x) (forget v)
unfolding add_at PlainOperation.add_at forgotten
forget-add_at [] x v = refl
forget-add_at (t ∷ ts) x v = forget-at_parent (insert_child x) (PlainOperation.insert_child (forget x)) (forget-insert_child x) t ts v

pub forget-remove_at_path : (path : Tokens) (v : Value.Value) → forgotten (remove_at_path path v) ≡ PlainOperation.remove_at_path path (forget v)
unfolding remove_at_path PlainOperation.remove_at_path forgotten
forget-remove_at_path [] v = refl
forget-remove_at_path (t ∷ ts) v = forget-at_parent remove_child PlainOperation.remove_child forget-remove_child t ts v

pub forget-replace_at_path : (path : Tokens) (x v : Value.Value) →
    forgotten (replace_at_path path x v) ≡ PlainOperation.replace_at_path path (forget x) (forget v)
unfolding replace_at_path PlainOperation.replace_at_path forgotten
forget-replace_at_path [] x v = refl
forget-replace_at_path (t ∷ ts) x v = forget-at_parent (replace_child x) (PlainOperation.replace_child (forget x)) (forget-replace_child x) t ts v

pub forget-move_to : (from path : Tokens) (v : Value.Value) → forgotten (move_to from path v) ≡ PlainOperation.move_to from path (forget v)
unfolding move_to PlainOperation.move_to forgotten
forget-move_to [] path v = refl
forget-move_to (t ∷ ts) path v =
    forgotten_then (walk (t ∷ ts) v) _ (λ x. PlainOperation.remove_at_path (t ∷ ts) (forget v) >>= λ left. PlainOperation.add_at path x left)
    (λ x. forgotten_then (remove_at_path (t ∷ ts) v) _ _ (λ left. forget-add_at path _ left) ∙
    ap (λ o. o >>= λ left. PlainOperation.add_at path (forget x) left) (forget-remove_at_path (t ∷ ts) v)) ∙
    ap (λ o. o >>= λ x. PlainOperation.remove_at_path (t ∷ ts) (forget v) >>= λ left. PlainOperation.add_at path x left) (forget-walk (t ∷ ts) v)

pub forget-copy_to : (k : ℕ) (from path : Tokens) (v : Value.Value) → forgotten (copy_to k from path v) ≡ PlainOperation.copy_to from path (forget v)
unfolding copy_to PlainOperation.copy_to
forget-copy_to k from path v =
    forgotten_then (walk from v) _ (λ x. PlainOperation.add_at path x (forget v))
    (λ x. forget-add_at path _ v ∙ ap (λ y. PlainOperation.add_at path y (forget v)) (forget-painted _ (forget x))) ∙
    ap (λ o. o >>= λ x. PlainOperation.add_at path x (forget v)) (forget-walk from v)

pub forget-test_at : (path : Tokens) (x : Plain.Value) (v : Value.Value) → forgotten (test_at path x v) ≡ PlainOperation.test_at path x (forget v)
unfolding test_at PlainOperation.test_at forgotten
forget-test_at path x v =
    forgotten_then (walk path v) _ (λ found. if equal found x then ok (forget v) else refused 15 0)
    (λ found. forgotten_if (equal (forget found) x) (ok v) (refused 15 0) refl refl) ∙
    ap (λ o. o >>= λ found. if equal found x then ok (forget v) else refused 15 0) (forget-walk path v)

pub forget-perform : (k : ℕ) (o : Operation) (v : Value.Value) → forgotten (perform k o v) ≡ PlainOperation.perform o (forget v)
unfolding perform PlainOperation.perform
forget-perform k o v = go o.kind
  where
    by : Kind → Operation
    by kind = record { kind = kind; path = o.path; from = o.from; value = o.value }

    go : (kind : Kind) → forgotten (perform k (by kind) v) ≡ PlainOperation.perform (by kind) (forget v)
    go add = forget-add_at o.path (painted k o.value) v ∙ ap (λ x. PlainOperation.add_at o.path x (forget v)) (forget-painted k o.value)
    go remove = forget-remove_at_path o.path v
    go replace =
        forget-replace_at_path o.path (painted k o.value) v ∙
        ap (λ x. PlainOperation.replace_at_path o.path x (forget v)) (forget-painted k o.value)
    go move = forget-move_to o.from o.path v
    go copy = forget-copy_to k o.from o.path v
    go test = forget-test_at o.path o.value v

forget-deep : (w : Value.Value) → forgotten (not_too_deep w) ≡ PlainOperation.not_too_deep (forget w)
unfolding not_too_deep PlainOperation.not_too_deep forgotten
forget-deep w = forgotten_if (leb (Plain.depth (forget w)) max_depth) (ok w) (refused 5 0) refl refl

forget_large : (w : Value.Value) → forgotten (not_too_large w) ≡ PlainOperation.not_too_large (forget w)
unfolding not_too_large PlainOperation.not_too_large forgotten
forget_large w = forgotten_if (leb (Plain.nodes (forget w)) max_nodes) (ok w) (refused 6 0) refl refl

pub forget-limited : (k : ℕ) (o : Operation) (v : Value.Value) → forgotten (limited k o v) ≡ PlainOperation.limited o (forget v)
unfolding limited PlainOperation.limited
forget-limited k o v =
    forgotten_then (perform k o v >>= not_too_deep) not_too_large PlainOperation.not_too_large forget_large ∙
    ap (λ r. r >>= PlainOperation.not_too_large)
    (forgotten_then (perform k o v) not_too_deep PlainOperation.not_too_deep forget-deep ∙ ap (λ r. r >>= PlainOperation.not_too_deep) (forget-perform k o v))
