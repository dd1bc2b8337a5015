-- What takes back a value that was put in or replaced: it gives the document before, exactly.
use Rattle.std.specs.Prelude.{if◌then◌else◌}
use mathlib.Core.Path.{◌≡◌, refl, ap, sym, subst, ◌∙◌}
use mathlib.Core.Bool.{true, false}
use mathlib.Core.List.{[], ◌∷◌, ◌++◌}
use Prim.Native.Nat.{ℕ, zero, suc, ◌≤◌}
use native.Mathlib.Omega.{arith}
use borrow.Author.Tests.{lt-ltb}
use Rattle.spec.specs.Outcome.{Outcome, ok, refused, ◌>>=◌}
use Rattle.spec.specs.Bytes.{Text}
use Rattle.spec.specs.Forest.{Forest, none, tree, Tree, single, count, before, from, insert_at, remove_at, ◌⧺◌}
use Rattle.spec.specs.Value as Value
use Rattle.spec.specs.Value.{Members, is_array, is_object, named, value_of, has, find}
use Rattle.spec.specs.Pointer.{Tokens, child_at, child, farther, walk, element_below, is_dash}
use Rattle.spec.specs.Operation.{Operation, with_kids, put, at_parent, insert_element, insert_member, insert_child, remove_child, replace_child}
use Rattle.spec.specs.Operation.{add_at, remove_at_path}
use Rattle.spec.specs.Operation.{replace_at_path, perform}
use Rattle.spec.proofs.OutcomeLaws.{refused≢ok, both_ok}
use Rattle.spec.proofs.FartherLaws.{farther_ok}
use Rattle.spec.proofs.ChildLaws.{child_there, child_at-put, child-put, put-put, put-child}
use Rattle.spec.proofs.PlaceLaws.{walk_on}
use Rattle.claims.specs.Operations.{removing, replacing}
use Rattle.claims.proofs.CharacterScalar.{if_ok}
use Rattle.claims.proofs.RemoveAddLaws.{insert_last}
use Rattle.reversal.specs.Undo.{result_or, value_at, element_token, parent_tokens, last_token, mended_in, mended}
use Rattle.reversal.proofs.IndexToken.{by_test, element_at_index, element_below_lem}
use Rattle.reversal.proofs.LikeChildren.{FoundAt, found_at, inserted_last, array-child, object-child, named_there}

module _ {A : Type 0} where
  remove_inserted : (k : ℕ) (t : Tree A) (f : Forest A) → k ≤ count f → remove_at k (insert_at k t f) ≡ f
  unfolding count remove_at insert_at before from ◌⧺◌
  remove_inserted zero t f h = refl
  remove_inserted (suc k) t none h = absurd (omega arith)
  remove_inserted (suc k) t (tree a kids rest) h = ap (tree a kids) (remove_inserted k t rest (omega arith))

  count_inserted_at : (k : ℕ) (t : Tree A) (f : Forest A) → k ≤ count f → count (insert_at k t f) ≡ suc (count f)
  unfolding count insert_at before from ◌⧺◌
  count_inserted_at zero t f h = refl
  count_inserted_at (suc k) t none h = absurd (omega arith)
  count_inserted_at (suc k) t (tree a kids rest) h = ap suc (count_inserted_at k t rest (omega arith))

-- behind one token more the result is the same
result_farther : (other : Value.Value) (o : Outcome Value.Value) → result_or other (farther o) ≡ result_or other o
unfolding result_or farther
result_farther other (ok v) = refl
result_farther other (refused n k) = refl

-- what stands farther down
pub value_on : (t : Text) (ts : Tokens) (v : Value.Value) (k : ℕ) → child_at t v ≡ ok k → value_at (t ∷ ts) v ≡ value_at ts (value_of (child k v))
unfolding value_at
value_on t ts v k h = rw (walk_on t ts v k h) (result_farther _ (walk ts (value_of (child k v))))

pub value-here : (t : Text) (v : Value.Value) (k : ℕ) → child_at t v ≡ ok k → value_at (t ∷ []) v ≡ value_of (child k v)
unfolding value_at walk result_or
value-here t v k h = value_on t [] v k h

-- a change below a child that was put there
pub below_put : (change : Text → Value.Value → Outcome Value.Value) (t u : Text) (ts : Tokens) (k : ℕ) (w v : Value.Value) → child_at t v ≡ ok k →
    at_parent change t (u ∷ ts) (put k w v) ≡ farther (at_parent change u ts w) >>= λ w'. ok (put k w' v)
unfolding at_parent ◌>>=◌
below_put change t u ts k w v h =
    let c = child_there t v k h in
    rw (child_at-put k w v c t, h, child-put k w v c) (simp (put-put k w v c))

-- a child replaced once more by what it was
pub replaced_back : (t : Text) (v x : Value.Value) (k : ℕ) → child_at t v ≡ ok k → replace_child (value_of (child k v)) t (put k x v) ≡ ok v
unfolding replace_child ◌>>=◌
replaced_back t v x k h =
    let c = child_there t v k h in
    rw (child_at-put k x v c t, h, put-put k x v c, put-child k v c)

-- Under one parent

element_token_lem : (t : Text) (f : Members) (k : ℕ) → (if is_dash t then ok (count f) else element_below (suc (count f)) t) ≡ ok k →
    element_below (suc (count f)) (element_token t f) ≡ ok k
unfolding element_token
element_token_lem t f k h =
    by_test (is_dash t)
    (λ q. let same : count f ≡ k = cc (rw q at h) in rw (q, ← same) (element_at_index (count f) (suc (count f)) (omega arith)))
    λ q. rw q (rw q at h)

element_mended : (t : Text) (x v w : Value.Value) → is_array v.label ≡ true → insert_element x t v ≡ ok w →
    remove_at_path (element_token t v.kids ∷ []) w ≡ ok v
unfolding insert_element remove_at_path at_parent remove_child ◌>>=◌
element_mended t x v w a h =
    let (k, e, i) = both_ok _ _ w h in
    let token = element_token_lem t v.kids k e in
    let bound = element_below_lem (suc (count v.kids)) _ k token in
    let same : with_kids v (insert_at k (named [] x) v.kids) ≡ w = cc in
    let many = count_inserted_at k (named [] x) v.kids (omega arith) in
    let new = with_kids v (insert_at k (named [] x) v.kids) in
    let there : child_at (element_token t v.kids) new ≡ ok k = array-child _ new a ∙ rw many token in
    rw (← same, there, remove_inserted k (named [] x) v.kids (omega arith))

-- a member that was there, and one that was not
old-member : (t : Text) (x v : Value.Value) → is_array v.label ≡ false → is_object v.label ≡ true → has t v.kids ≡ true →
    replace_at_path (t ∷ []) (value_at (t ∷ []) v) (insert_member x t v) ≡ ok v
unfolding replace_at_path at_parent insert_member
old-member t x v a o h =
    let there : child_at t v ≡ ok (find t v.kids) = object-child t v a o ∙ named_there t v.kids h in
    rw (h, value-here t v (find t v.kids) there) (replaced_back t v x (find t v.kids) there)

new-member : (t : Text) (x v : Value.Value) → is_array v.label ≡ false → is_object v.label ≡ true → has t v.kids ≡ false →
    remove_at_path (t ∷ []) (insert_member x t v) ≡ ok v
unfolding remove_at_path at_parent remove_child insert_member ◌>>=◌
new-member t x v a o h =
    let more = v.kids ⧺ single (named t x) in
    let at : FoundAt t _ _ v.kids more = found_at (inserted_last (named t x) v.kids) h in
    let new = with_kids v more in
    let there : child_at t new ≡ ok (find t more) = object-child t new a o ∙ named_there t more (lt-ltb (find t more) (count more) at.in_range) in
    rw (h, insert_last (named t x) v.kids, there, at.others)

-- what `mended_in` is, by the kind of parent
module _ (parent : Tokens) (t : Text) (v : Value.Value) where
  pub mended_element : is_array v.label ≡ true → mended_in parent t v ≡ removing (parent ++ (element_token t v.kids ∷ []))
  unfolding mended_in
  mended_element a = rw a

  pub mended_old : is_array v.label ≡ false → has t v.kids ≡ true → mended_in parent t v ≡ replacing (parent ++ (t ∷ [])) (value_at (t ∷ []) v)
  unfolding mended_in
  mended_old a h = rw (a, h)

  pub mended_new : is_array v.label ≡ false → has t v.kids ≡ false → mended_in parent t v ≡ removing (parent ++ (t ∷ []))
  unfolding mended_in
  mended_new a h = rw (a, h)

  -- by cases
  pub mended_cases : (C : Operation → Type 0) → (is_array v.label ≡ true → C (removing (parent ++ (element_token t v.kids ∷ [])))) →
      (is_array v.label ≡ false → has t v.kids ≡ true → C (replacing (parent ++ (t ∷ [])) (value_at (t ∷ []) v))) →
      (is_array v.label ≡ false → has t v.kids ≡ false → C (removing (parent ++ (t ∷ [])))) → C (mended_in parent t v)
  mended_cases C f g h =
      by_test (is_array v.label) (λ a. subst C (sym (mended_element a)) (f a)) λ a.
      by_test (has t v.kids) (λ b. subst C (sym (mended_old a b)) (g a b)) λ b. subst C (sym (mended_new a b)) (h a b)

-- what was put in as a child
pub inserted_by : {C : Type 0} (x : Value.Value) (t : Text) (v w : Value.Value) → insert_child x t v ≡ ok w →
    (is_array v.label ≡ true → insert_element x t v ≡ ok w → C) →
    (is_array v.label ≡ false → is_object v.label ≡ true → insert_member x t v ≡ w → C) → C
unfolding insert_child
inserted_by x t v w h f g =
    if_ok (is_array v.label) h f λ a i.
    if_ok (is_object v.label) i (λ o j. g a o (cc)) (λ _ j. absurd (refused≢ok j))

mended-child : (x : Value.Value) (t : Text) (v w : Value.Value) → insert_child x t v ≡ ok w → perform (mended_in [] t v) w ≡ ok v
unfolding perform
mended-child x t v w h =
    inserted_by x t v w h
    (λ a i. rw (mended_element [] t v a) (element_mended t x v w a i))
    λ a o i.
    by_test (has t v.kids) (λ b. rw (mended_old [] t v a b, ← i) (old-member t x v a o b))
    λ b. rw (mended_new [] t v a b, ← i) (new-member t x v a o b)

-- Farther down

-- the same operation one token farther up
module _ (t : Text) (k : ℕ) (w v : Value.Value) (h : child_at t v ≡ ok k) where
  remove_below : (hs : Tokens) (l : Text) →
      remove_at_path (t ∷ (hs ++ (l ∷ []))) (put k w v) ≡ farther (remove_at_path (hs ++ (l ∷ [])) w) >>= λ y. ok (put k y v)
  unfolding remove_at_path
  remove_below [] l = below_put remove_child t l [] k w v h
  remove_below (s ∷ hs) l = below_put remove_child t s (hs ++ (l ∷ [])) k w v h

  pub replace_below : (x : Value.Value) (s : Text) (ss : Tokens)
      → replace_at_path (t ∷ s ∷ ss) x (put k w v) ≡ farther (replace_at_path (s ∷ ss) x w) >>= λ y. ok (put k y v)
  unfolding replace_at_path
  replace_below x s ss = below_put (replace_child x) t s ss k w v h

  replace_at_last : (x : Value.Value) (hs : Tokens) (l : Text) →
      replace_at_path (t ∷ (hs ++ (l ∷ []))) x (put k w v) ≡ farther (replace_at_path (hs ++ (l ∷ [])) x w) >>= λ y. ok (put k y v)
  replace_at_last x [] l = replace_below x l []
  replace_at_last x (s ∷ hs) l = replace_below x s (hs ++ (l ∷ []))

  mended_below : (hs : Tokens) (l : Text) (p : Value.Value)
      → perform (mended_in (t ∷ hs) l p) (put k w v) ≡ farther (perform (mended_in hs l p) w) >>= λ y. ok (put k y v)
  unfolding perform
  mended_below hs l p =
      by_test (is_array p.label) (λ a. rw (mended_element (t ∷ hs) l p a, mended_element hs l p a) (remove_below hs _)) λ a.
      by_test (has l p.kids) (λ b. rw (mended_old (t ∷ hs) l p a b, mended_old hs l p a b) (replace_at_last _ hs l)) λ b.
      rw (mended_new (t ∷ hs) l p a b, mended_new hs l p a b) (remove_below hs l)

-- A VALUE PUT IN, taken back
mended_parent : (x : Value.Value) (t : Text) (ts : Tokens) (v w : Value.Value) → at_parent (insert_child x) t ts v ≡ ok w → perform (mended (t ∷ ts) v) w ≡ ok v
unfolding at_parent mended parent_tokens last_token value_at walk farther result_or ◌>>=◌
mended_parent x t [] v w h = mended-child x t v w h
mended_parent x t (u ∷ ts) v w h =
    let (k, e, i) = both_ok (child_at t v) _ w h in
    let (y, f, j) = both_ok (farther (at_parent (insert_child x) u ts (value_of (child k v)))) _ w i in
    let same : put k y v ≡ w = cc in
    let ih = mended_parent x u ts (value_of (child k v)) y (farther_ok _ f) in
    rw (← same, value_on t (parent_tokens u ts) v k e, mended_below t k y v e (parent_tokens u ts) (last_token u ts) _, ih)
    (ap ok (put-child k v (child_there t v k e)))

pub mended_back : (path : Tokens) (x v w : Value.Value) → add_at path x v ≡ ok w → perform (mended path v) w ≡ ok v
unfolding add_at mended perform replace_at_path
mended_back [] x v w h = refl
mended_back (t ∷ ts) x v w h = mended_parent x t ts v w h
