-- Replacing a child of a container, against removing it and adding another at the same token.
use Rattle.std.specs.Prelude.{if◌then◌else◌}
use mathlib.Core.Path.{◌≡◌, refl, sym}
use mathlib.Core.Bool.{Bool, true, false, true≢false}
use mathlib.Core.List.{[], ◌∷◌}
use Prim.Native.Nat.{ℕ, zero, suc, ◌<◌}
use native.Mathlib.Omega.{arith}
use borrow.Author.Tests.{ltb-true}
use Rattle.spec.specs.Outcome.{Outcome, ok, refused, ◌>>=◌}
use Rattle.spec.specs.Bytes.{Text}
use Rattle.spec.specs.Forest.{none, tree, Tree, count, before, from, remove_at, nth, ◌⧺◌}
use Rattle.spec.specs.Value as Value
use Rattle.spec.specs.Value.{Label, Entry, Members, tag, is_array, is_object, named, leaf, value_of, has, find, same_text}
use Rattle.spec.specs.Pointer.{Tokens, child_at, child, farther, element_below, member_named, is_dash}
use Rattle.spec.specs.Operation.{put, at_parent, insert_element, insert_member, insert_child, remove_child, replace_child}
use Rattle.spec.proofs.OutcomeLaws.{refused≢ok}
use Rattle.spec.proofs.TextLaws.{same_text_true, same_text_false}
use Rattle.spec.proofs.ForestLaws.{name_find}
use Rattle.spec.proofs.ChildLaws.{child_there, child_at-put, child-put, put-put}
use Rattle.spec.specs.Proper.{Proper, ProperItems, element, member}
use Rattle.claims.specs.Equality.{Reordered}
use Rattle.claims.specs.Operations.{Same, both, neither}
use Rattle.spec.proofs.NameLaws.{absent_cons}
use Rattle.claims.proofs.RemoveAddLaws.{count-remove_at, insert_removed, insert_last, permuted_refl, replaced_last}

-- no other member has the name of one that was removed
removed_absent : (t : Text) (f : Members) → ProperItems true f → find t f < count f → has t (remove_at (find t f) f) ≡ false
unfolding find remove_at before from ◌⧺◌ count
removed_absent t none p h = absurd (omega arith)
removed_absent t (tree e kids rest) (member n a l k p) h = go (same_text e.name t) refl h (removed_absent t rest p)
  where
    go : (b : Bool) → same_text e.name t ≡ b → (if b then 0 else suc (find t rest)) < suc (count rest) →
        (find t rest < count rest → has t (remove_at (find t rest) rest) ≡ false) →
        has t (remove_at (if b then 0 else suc (find t rest)) (tree e kids rest)) ≡ false
    go true q h ih = rw (same_text_true _ _ q) at a
    go false q h ih = absent_cons t e kids (remove_at (find t rest) rest) (same_text_false _ _ q) (ih (omega arith))

element_name : (z : Tree Entry) (k : ℕ) (f : Members) → ProperItems false f → k < count f → (nth z k f).root.name ≡ []
unfolding nth count
element_name z k none p h = absurd (omega arith)
element_name z zero (tree e kids rest) (element n l i p) h = n
element_name z (suc k) (tree e kids rest) (element n l i p) h = element_name z k rest p (omega arith)

-- an element's place, in an array with one element fewer and room for one more
element_again : (n m : ℕ) (t : Text) (k : ℕ) → suc m ≡ n → element_below n t ≡ ok k →
    (is_dash t ≡ false) × (element_below (suc m) t ≡ ok k)
unfolding element_below
element_again n m t k e h = go (is_dash t) refl (rw (← e) at h)
  where
    go : (dash : Bool) → is_dash t ≡ dash → element_below (suc m) t ≡ ok k → (is_dash t ≡ false) × (element_below (suc m) t ≡ ok k)
    go true q h = absurd (refused≢ok (rw q at h))
    go false q h = (q, h)

member-found : (t : Text) (f : Members) (k : ℕ) → member_named t f ≡ ok k → (k ≡ find t f) × (k < count f)
unfolding member_named
member-found t f k h = go (has t f) refl h
  where
    go : (there : Bool) → has t f ≡ there → (if there then ok (find t f) else refused 11 0) ≡ ok k → (k ≡ find t f) × (k < count f)
    go true q h = let place : k ≡ find t f = cc in (place, omega (arith, ltb-true (find t f) (count f) q))
    go false q h = absurd (refused≢ok h)

abbrev array_of : Members → Value.Value
array_of f = record { label = Label.array; kids = f }

abbrev object_of : Members → Value.Value
object_of f = record { label = Label.object; kids = f }

module _ (x : Value.Value) (t : Text) (kids : Members) (k : ℕ) where
  replaced_element : ProperItems false kids → element_below (count kids) t ≡ ok k →
      ok (put k x (array_of kids)) ≡ insert_element x t (array_of (remove_at k kids))
  unfolding insert_element put child child_at is_array tag ◌>>=◌
  replaced_element p q =
      let there = child_there t (array_of kids) k q in
      let a = element_again (count kids) (count (remove_at k kids)) t k (count-remove_at k kids there) q in
      rw (a.0, a.1, element_name (named [] (leaf Label.null_literal)) k kids p there, insert_removed k (named [] x) kids there)

  replaced-member : ProperItems true kids → member_named t kids ≡ ok k → Reordered (put k x (object_of kids)) (insert_member x t (object_of (remove_at k kids)))
  unfolding insert_member put child child_at is_array is_object tag
  replaced-member p q =
      let m = member-found t kids k q in
      let place = m.0 in
      let there : find t kids < count kids = omega (arith, m.1) in
      let absent : has t (remove_at k kids) ≡ false = rw place (removed_absent t kids p there) in
      let z = named [] (leaf Label.null_literal) in
      let name : (nth z k kids).root.name ≡ t = rw place (same_text_true _ _ (name_find z t kids there)) in
      rw (absent, insert_last (named t x) (remove_at k kids), name) (record { label = refl; kids = replaced_last k (named t x) kids m.1 })

-- what a child is replaced by, and what is removed and added in its place
module _ (x : Value.Value) (t : Text) (kids : Members) where
  in_array : ProperItems false kids → replace_child x t (array_of kids) ≡ remove_child t (array_of kids) >>= insert_child x t
  unfolding replace_child remove_child insert_child child_at is_array tag ◌>>=◌
  in_array p = go (element_below (count kids) t) refl
    where
      go : (o : Outcome ℕ) → element_below (count kids) t ≡ o →
          (o >>= λ k. ok (put k x (array_of kids))) ≡ (o >>= λ k. ok (array_of (remove_at k kids))) >>= insert_child x t
      go (refused number place) q = refl
      go (ok k) q = replaced_element x t kids k p q

  in-object : ProperItems true kids → Same Reordered (replace_child x t (object_of kids)) (remove_child t (object_of kids) >>= insert_child x t)
  unfolding replace_child remove_child insert_child child_at is_array is_object tag ◌>>=◌
  in-object p = go (member_named t kids) refl
    where
      go : (o : Outcome ℕ) → member_named t kids ≡ o →
          Same Reordered (o >>= λ k. ok (put k x (object_of kids))) ((o >>= λ k. ok (object_of (remove_at k kids))) >>= insert_child x t)
      go (refused number place) q = neither
      go (ok k) q = both (replaced-member x t kids k p q)

reordered_refl : (v : Value.Value) → Reordered v v
reordered_refl v = record { label = refl; kids = permuted_refl _ _ }

same_refl : (o : Outcome Value.Value) → Same Reordered o o
same_refl (ok v) = both (reordered_refl v)
same_refl (refused number place) = neither

module _ (x : Value.Value) (t : Text) where
  pub child_reordered : (v : Value.Value) → Proper v → Same Reordered (replace_child x t v) (remove_child t v >>= insert_child x t)
  unfolding replace_child remove_child insert_child child_at is_array is_object tag ◌>>=◌
  child_reordered v p = go v.label v.kids p.items
    where
      go : (l : Label) (kids : Members) → ProperItems (is_object l) kids →
          Same Reordered (replace_child x t (record { label = l; kids = kids })) (remove_child t (record { label = l; kids = kids }) >>= insert_child x t)
      go Label.null_literal kids p = neither
      go Label.true_literal kids p = neither
      go Label.false_literal kids p = neither
      go (Label.number s) kids p = neither
      go (Label.string s) kids p = neither
      go Label.array kids p = rw (← in_array x t kids p) (same_refl _)
      go Label.object kids p = in-object x t kids p

  pub element_same : (v : Value.Value) → Proper v → is_array v.label ≡ true → replace_child x t v ≡ remove_child t v >>= insert_child x t
  unfolding is_array is_object tag
  element_same v p h = go v.label v.kids p.items h
    where
      go : (l : Label) (kids : Members) → ProperItems (is_object l) kids → is_array l ≡ true →
          replace_child x t (record { label = l; kids = kids }) ≡ remove_child t (record { label = l; kids = kids }) >>= insert_child x t
      go Label.null_literal kids p h = absurd (true≢false (sym h))
      go Label.true_literal kids p h = absurd (true≢false (sym h))
      go Label.false_literal kids p h = absurd (true≢false (sym h))
      go (Label.number s) kids p h = absurd (true≢false (sym h))
      go (Label.string s) kids p h = absurd (true≢false (sym h))
      go Label.array kids p h = in_array x t kids p
      go Label.object kids p h = absurd (true≢false (sym h))

-- The same at a parent farther down: what is put there is related as its children are.

-- the last token, and the parent that those before it lead to
pub data AtParent : Text → Tokens → Value.Value → Text → Value.Value → Type 0 where
  end : {t : Text} {v : Value.Value} → AtParent t [] v t v
  step : {t u last : Text} {ts : Tokens} {v parent : Value.Value} {k : ℕ} → child_at t v ≡ ok k → AtParent u ts (value_of (child k v)) last parent →
      AtParent t (u ∷ ts) v last parent

-- a change below a child that was put there
below_put : (change : Text → Value.Value → Outcome Value.Value) (t u : Text) (ts : Tokens) (k : ℕ) (w v : Value.Value) → child_at t v ≡ ok k →
    at_parent change t (u ∷ ts) (put k w v) ≡ farther (at_parent change u ts w) >>= λ w'. ok (put k w' v)
unfolding at_parent ◌>>=◌
below_put change t u ts k w v h =
    let c = child_there t v k h in
    rw (child_at-put k w v c t, h, child-put k w v c) (simp (put-put k w v c))

module _ (R : Value.Value → Value.Value → Type 0)
    (on-put : (k : ℕ) (w w' v : Value.Value) → k < count v.kids → R w w' → R (put k w v) (put k w' v)) (x : Value.Value) where
  same_put : (k : ℕ) (v : Value.Value) → k < count v.kids → {o o' : Outcome Value.Value} → Same R o o' →
      Same R (o >>= λ w. ok (put k w v)) (o' >>= λ w. ok (put k w v))
  unfolding ◌>>=◌
  same_put k v c (both r) = both (on-put k _ _ v c r)
  same_put k v c neither = neither

  same_farther : {o o' : Outcome Value.Value} → Same R o o' → Same R (farther o) (farther o')
  unfolding farther
  same_farther (both r) = both r
  same_farther neither = neither

  abbrev Replaced : Text → Tokens → Value.Value → Type 0
  Replaced t ts v = Same R (at_parent (replace_child x) t ts v) (at_parent remove_child t ts v >>= at_parent (insert_child x) t ts)

  abbrev ReplacedThere : Text → Tokens → Value.Value → Type 0
  ReplacedThere t ts v =
      (last : Text) (parent : Value.Value) → AtParent t ts v last parent →
      Same R (replace_child x last parent) (remove_child last parent >>= insert_child x last)

  pub at_parent_lem : (t : Text) (ts : Tokens) (v : Value.Value) → ReplacedThere t ts v → Replaced t ts v
  unfolding at_parent farther ◌>>=◌
  at_parent_lem t [] v h = h t v end
  at_parent_lem t (u ∷ ts) v h = go (child_at t v) refl (at_parent_lem u ts)
    where
      below : (k : ℕ) → child_at t v ≡ ok k → (r : Outcome Value.Value) →
          (farther r >>= λ w. ok (put k w v)) >>= at_parent (insert_child x) t (u ∷ ts) ≡
          farther (r >>= at_parent (insert_child x) u ts) >>= λ w. ok (put k w v)
      below k q (ok w) = below_put (insert_child x) t u ts k w v q
      below k q (refused number place) = refl

      go : (o : Outcome ℕ) → child_at t v ≡ o → ((v : Value.Value) → ReplacedThere u ts v → Replaced u ts v) →
          Same R (o >>= λ k. farther (at_parent (replace_child x) u ts (value_of (child k v))) >>= λ w. ok (put k w v))
          ((o >>= λ k. farther (at_parent remove_child u ts (value_of (child k v))) >>= λ w. ok (put k w v)) >>= at_parent (insert_child x) t (u ∷ ts))
      go (refused number place) q ih = neither
      go (ok k) q ih =
          rw (below k q (at_parent remove_child u ts (value_of (child k v))))
          (same_put k v (child_there t v k q) (same_farther (ih (value_of (child k v)) (λ last parent a. h last parent (step q a)))))
