-- An operation followed by its undo gives the document before it, but for the order of members.
use mathlib.Core.Path.{◌≡◌, refl, ap, sym, subst, ◌∙◌}
use mathlib.Core.Bool.{true, ◌&&◌, false≢true}
use mathlib.Core.List.{List, [], ◌∷◌}
use Prim.Native.Nat.{ℕ}
use native.Mathlib.Omega.{arith}
use Rattle.spec.specs.Outcome.{Outcome, ok, ◌>>=◌}
use Rattle.spec.specs.Bytes.{Text}
use Rattle.spec.specs.Value as Value
use Rattle.spec.specs.Value.{is_array, value_of, has, find, same_text}
use Rattle.spec.specs.Pointer.{Tokens, child_at, child, farther, walk}
use Rattle.spec.specs.Operation.{Kind, Operation, put, at_parent, insert_member, insert_child, remove_child, replace_child, add_at}
use Rattle.spec.specs.Operation.{remove_at_path, replace_at_path}
use Rattle.spec.specs.Operation.{move_to, copy_to, perform, limited}
use Rattle.spec.specs.Patch.{proper_prefix}
use Rattle.spec.proofs.OutcomeLaws.{refused≢ok, both_ok}
use Rattle.spec.proofs.FartherLaws.{farther_ok}
use Rattle.spec.proofs.TextLaws.{both_true, same_text_true}
use Rattle.spec.proofs.ChildLaws.{child_there, child_at-put, child-put, put-put, put-child}
use Rattle.spec.specs.Proper.{Proper, Readable}
use Rattle.claims.specs.Equality.{Reordered}
use Rattle.claims.specs.Operations.{Same, both, neither, adding, replacing}
use Rattle.claims.proofs.OperationsTheorem.{operations}
use Rattle.reversal.specs.Undo.{result_or, value_at, remaining, parent_tokens, last_token, mended_in, mended, is_replace, undo_moved, undo_move, undo_of}
use Rattle.reversal.proofs.Like.{LikeValues, equal_labels, values_refl, reordered_like, nodes_like, depth_like}
use Rattle.reversal.proofs.LikeChildren.{object-child, named_there}
use Rattle.reversal.proofs.IndexToken.{by_test}
use Rattle.reversal.proofs.Mended.{value_on, value-here, below_put, replaced_back, replace_below, inserted_by, mended_element, mended_old, mended_new}
use Rattle.reversal.proofs.Mended.{mended_back}
use Rattle.reversal.proofs.Smaller.{left_no_larger}
use Rattle.reversal.proofs.EqualDocuments.{Within, performs_limited}

-- A replaced value

replaced_parent : (x : Value.Value) (t : Text) (ts : Tokens) (v w : Value.Value) → at_parent (replace_child x) t ts v ≡ ok w →
    replace_at_path (t ∷ ts) (value_at (t ∷ ts) v) w ≡ ok v
unfolding at_parent farther replace_at_path replace_child ◌>>=◌
replaced_parent x t [] v w h =
    let (k, e, i) = both_ok (child_at t v) _ w h in
    let same : put k x v ≡ w = cc in
    rw (← same, value-here t v k e) (replaced_back t v x k e)
replaced_parent x t (u ∷ ts) v w h =
    let (k, e, i) = both_ok (child_at t v) _ w h in
    let (y, f, j) = both_ok (farther (at_parent (replace_child x) u ts (value_of (child k v)))) _ w i in
    let same : put k y v ≡ w = cc in
    let ih = replaced_parent x u ts (value_of (child k v)) y (farther_ok _ f) in
    rw (← same) (subst (λ z. replace_at_path (t ∷ u ∷ ts) z (put k y v) ≡ ok v) (sym (value_on t (u ∷ ts) v k e))
    (rw (replace_below t k y v e (value_at (u ∷ ts) (value_of (child k v))) u ts, ih) (ap ok (put-child k v (child_there t v k e)))))

replaced_path : (path : Tokens) (x v w : Value.Value) → replace_at_path path x v ≡ ok w → replace_at_path path (value_at path v) w ≡ ok v
unfolding replace_at_path value_at walk result_or
replaced_path [] x v w h = refl
replaced_path (t ∷ ts) x v w h = replaced_parent x t ts v w h

-- A removed value: what is there and could be removed may be replaced by itself, and that is to remove and add it.

child_again : (t : Text) (v : Value.Value) (k : ℕ) → child_at t v ≡ ok k → replace_child (value_at (t ∷ []) v) t v ≡ ok v
unfolding replace_child ◌>>=◌
child_again t v k e = rw (value-here t v k e, e) (ap ok (put-child k v (child_there t v k e)))

below_again : (t u : Text) (ts : Tokens) (v : Value.Value) (k : ℕ) → child_at t v ≡ ok k →
    at_parent (replace_child (value_at (u ∷ ts) (value_of (child k v)))) u ts (value_of (child k v)) ≡ ok (value_of (child k v)) →
    at_parent (replace_child (value_at (t ∷ u ∷ ts) v)) t (u ∷ ts) v ≡ ok v
unfolding at_parent farther ◌>>=◌
below_again t u ts v k e ih =
    subst (λ x. at_parent (replace_child x) t (u ∷ ts) v ≡ ok v) (sym (value_on t (u ∷ ts) v k e))
    (rw (e, ih) (ap ok (put-child k v (child_there t v k e))))

same_again : (t : Text) (ts : Tokens) (v w : Value.Value) → at_parent remove_child t ts v ≡ ok w → at_parent (replace_child (value_at (t ∷ ts) v)) t ts v ≡ ok v
unfolding at_parent remove_child
same_again t [] v w h = let (k, e, i) = both_ok (child_at t v) _ w h in child_again t v k e
same_again t (u ∷ ts) v w h =
    let (k, e, i) = both_ok (child_at t v) _ w h in
    let (y, f, j) = both_ok (farther (at_parent remove_child u ts (value_of (child k v)))) _ w i in
    below_again t u ts v k e (same_again u ts (value_of (child k v)) y (farther_ok _ f))

-- a result like a document
pub record Restored (o : Outcome Value.Value) (v : Value.Value) : Type 0 where
  pub result : Value.Value
  pub is : o ≡ ok result
  pub like : LikeValues ◌≡◌ v result

restored : {o : Outcome Value.Value} {v : Value.Value} → Same Reordered (ok v) o → Restored o v
restored {o} {v} s = go refl s
  where
    go : {a b : Outcome Value.Value} → a ≡ ok v → Same Reordered a b → Restored b v
    go e (both {v = x} {w = y} r) = let same : x ≡ v = cc in record { result = y; is = refl; like = reordered_like (rw same at r) }
    go e neither = absurd (refused≢ok e)

pub added_back : (t : Text) (ts : Tokens) (v w : Value.Value) → Proper v → remove_at_path (t ∷ ts) v ≡ ok w →
    Restored (add_at (t ∷ ts) (value_at (t ∷ ts) v) w) v
unfolding remove_at_path replace_at_path add_at perform ◌>>=◌
added_back t ts v w p h = restored (rw (same_again t ts v w h, h) at (operations.replace t ts (value_at (t ∷ ts) v) v p))

-- A move over a value that held `from`

pub kind_below : (t : Text) (hs : Tokens) (l : Text) (p : Value.Value) → is_replace (mended_in (t ∷ hs) l p).kind ≡ is_replace (mended_in hs l p).kind
kind_below t hs l p =
    by_test (is_array p.label) (λ a. rw (mended_element (t ∷ hs) l p a, mended_element hs l p a)) λ a.
    by_test (has l p.kids) (λ b. rw (mended_old (t ∷ hs) l p a b, mended_old hs l p a b)) λ b.
    rw (mended_new (t ∷ hs) l p a b, mended_new hs l p a b)

-- what was replaced is the child that the token names
put_old : (x : Value.Value) (t : Text) (v w : Value.Value) (k : ℕ) →
    is_replace (mended_in [] t v).kind ≡ true → insert_child x t v ≡ ok w → child_at t v ≡ ok k →
    put k x v ≡ w
unfolding is_replace insert_member
put_old x t v w k r h e =
    inserted_by x t v w h (λ a _. absurd (false≢true (rw (mended_element [] t v a) at r))) λ a o i.
    by_test (has t v.kids)
    (λ b.
    let there : child_at t v ≡ ok (find t v.kids) = object-child t v a o ∙ named_there t v.kids b in
    let place : find t v.kids ≡ k = cc in
    ap (λ j. put j x v) (sym place) ∙ (rw b at i))
    (λ b. absurd (false≢true (rw (mended_new [] t v a b) at r)))

module _ (x : Value.Value) (t : Text) (v c : Value.Value) (k : ℕ) (e : child_at t v ≡ ok k) where
  pub still_there : child_at t (put k c v) ≡ ok k
  still_there = child_at-put k c v (child_there t v k e) t ∙ e

  ancestor_here : (w : Value.Value) → is_replace (mended (t ∷ []) (put k c v)).kind ≡ true → insert_child x t (put k c v) ≡ ok w →
      replace_at_path (t ∷ []) (value_at (t ∷ []) v) w ≡ ok v
  unfolding mended parent_tokens last_token value_at walk result_or replace_at_path at_parent
  ancestor_here w r h =
      let same : put k x (put k c v) ≡ w = put_old x t (put k c v) w k r h still_there in
      let once : put k x v ≡ w = sym (put-put k c v (child_there t v k e) x) ∙ same in
      rw (← once, value-here t v k e) (replaced_back t v x k e)

  pub value-put : (hs : Tokens) → value_at (t ∷ hs) (put k c v) ≡ value_at hs c
  value-put hs = value_on t hs (put k c v) k still_there ∙ ap (λ n. value_at hs (value_of n)) (child-put k c v (child_there t v k e))

  ancestor_below : (s : Text) (ss : Tokens) (w : Value.Value) → is_replace (mended (t ∷ s ∷ ss) (put k c v)).kind ≡ true →
      at_parent (insert_child x) t (s ∷ ss) (put k c v) ≡ ok w →
      ((y : Value.Value) → is_replace (mended (s ∷ ss) c).kind ≡ true → at_parent (insert_child x) s ss c ≡ ok y →
      replace_at_path (s ∷ ss) (value_at (s ∷ ss) (value_of (child k v))) y ≡ ok (value_of (child k v))) →
      replace_at_path (t ∷ s ∷ ss) (value_at (t ∷ s ∷ ss) v) w ≡ ok v
  unfolding mended parent_tokens last_token farther ◌>>=◌
  ancestor_below s ss w r h ih =
      let (y, f, j) = both_ok (farther (at_parent (insert_child x) s ss c)) _ w (sym (below_put (insert_child x) t s ss k c v e) ∙ h) in
      let same : put k y v ≡ w = cc in
      let hs = parent_tokens s ss in
      let kind : is_replace (mended (s ∷ ss) c).kind ≡ true =
      sym (kind_below t hs (last_token s ss) (value_at hs c)) ∙ ap (λ p. is_replace (mended_in (t ∷ hs) (last_token s ss) p).kind) (sym (value-put hs)) ∙ r in
      rw (← same, value_on t (s ∷ ss) v k e, replace_below t k y v e (value_at (s ∷ ss) (value_of (child k v))) s ss, ih y kind (farther_ok _ f))
      (ap ok (put-child k v (child_there t v k e)))

ancestor_parent : (x : Value.Value) (t : Text) (ps us : Tokens) (v left w : Value.Value) → proper_prefix ps us ≡ true →
    at_parent remove_child t us v ≡ ok left →
    is_replace (mended (t ∷ ps) left).kind ≡ true → at_parent (insert_child x) t ps left ≡ ok w → replace_at_path (t ∷ ps) (value_at (t ∷ ps) v) w ≡ ok v
unfolding proper_prefix at_parent
ancestor_parent x t [] [] v left w q h r i = absurd (false≢true q)
ancestor_parent x t (p ∷ ps) [] v left w q h r i = absurd (false≢true q)
ancestor_parent x t [] (u ∷ us) v left w q h r i =
    let (k, e, h1) = both_ok (child_at t v) _ left h in
    let (c, f, h2) = both_ok (farther (at_parent remove_child u us (value_of (child k v)))) _ left h1 in
    let same : put k c v ≡ left = cc in
    ancestor_here x t v c k e w (rw (← same) at r) (rw (← same) at i)
ancestor_parent x t (p ∷ ps) (u ∷ us) v left w q h r i =
    let (k, e, h1) = both_ok (child_at t v) _ left h in
    let (c, f, h2) = both_ok (farther (at_parent remove_child u us (value_of (child k v)))) _ left h1 in
    let same : put k c v ≡ left = cc in
    let (here-same, rest) = both_true (same_text p u) (proper_prefix ps us) q in
    let token = ap (λ s. at_parent remove_child s us (value_of (child k v))) (same_text_true p u here-same) in
    ancestor_below x t v c k e p ps w (rw (← same) at r) (rw (← same) at i)
    (λ y kind j. ancestor_parent x p ps us (value_of (child k v)) c y rest (token ∙ farther_ok _ f) kind j)

ancestor_back : (x : Value.Value) (path : Tokens) (t : Text) (ts : Tokens) (v left w : Value.Value) → proper_prefix path (t ∷ ts) ≡ true →
    remove_at_path (t ∷ ts) v ≡ ok left → is_replace (mended path left).kind ≡ true → add_at path x left ≡ ok w →
    replace_at_path path (value_at path v) w ≡ ok v
unfolding proper_prefix remove_at_path add_at replace_at_path value_at walk result_or
ancestor_back x [] t ts v left w q h r i = refl
ancestor_back x (p ∷ ps) t ts v left w q h r i =
    let (here-same, rest) = both_true (same_text p t) (proper_prefix ps ts) q in
    let token : t ≡ p = sym (same_text_true p t here-same) in
    ancestor_parent x p ps ts v left w rest (rw token at h) r i

-- One operation's undo, run

pub data Runs : List Operation → Value.Value → Value.Value → Type 0 where
  stop : {v : Value.Value} → Runs [] v v
  step : {o : Operation} {os : List Operation} {v u w : Value.Value} → limited o v ≡ ok u → Runs os u w → Runs (o ∷ os) v w

-- operations that lead from one document to one that is like another
pub record Undoes (os : List Operation) (w v : Value.Value) : Type 0 where
  pub result : Value.Value
  pub runs : Runs os w result
  pub like : LikeValues ◌≡◌ v result

like_within : {v w : Value.Value} → Readable v → LikeValues ◌≡◌ v w → Within w
like_within r a =
    record { shallow = rw (← depth_like equal_labels a) r.shallow; few = rw (← nodes_like equal_labels a) r.few }

exactly : (o : Operation) (v w : Value.Value) → Readable v → perform o w ≡ ok v → Undoes (o ∷ []) w v
exactly o v w r h =
    let like = values_refl equal_labels v in
    record { result = v; runs = step (performs_limited o w v h (like_within r like)) stop; like = like }

undo_remove : (path : Tokens) (v w : Value.Value) → Readable v → remove_at_path path v ≡ ok w → Undoes (adding path (value_at path v) ∷ []) w v
unfolding remove_at_path perform
undo_remove [] v w r h = absurd (refused≢ok h)
undo_remove (t ∷ ts) v w r h =
    let back = added_back t ts v w r.proper h in
    record {
      result = back.result;
      runs = step (performs_limited (adding (t ∷ ts) (value_at (t ∷ ts) v)) w back.result back.is (like_within r back.like)) stop;
      like = back.like;
    }

undo_moved_lem : (t : Text) (ts path : Tokens) (x v left w : Value.Value) → Readable v → remove_at_path (t ∷ ts) v ≡ ok left → add_at path x left ≡ ok w →
    Undoes (undo_moved (mended path left) (t ∷ ts) path v) w v
unfolding undo_moved perform
undo_moved_lem t ts path x v left w r h i =
    by_test (proper_prefix path (t ∷ ts) && is_replace (mended path left).kind)
    (λ q.
    let (prefix, kind) = both_true (proper_prefix path (t ∷ ts)) _ q in
    rw q (exactly (replacing path (value_at path v)) v w r (ancestor_back x path t ts v left w prefix h kind i)))
    λ q.
    let smaller = left_no_larger (t ∷ ts) v left h in
    let fits : Within left = record { shallow = omega (arith, smaller.deep, r.shallow); few = omega (arith, smaller.many, r.few) } in
    let back = undo_remove (t ∷ ts) v left r h in
    rw q
    (record {
      result = back.result;
      runs = step (performs_limited (mended path left) w left (mended_back path x left w i) fits) back.runs;
      like = back.like;
    })

undo_move_lem : (from path : Tokens) (v w : Value.Value) → Readable v → move_to from path v ≡ ok w → Undoes (undo_move from path v) w v
unfolding move_to undo_move remaining result_or
undo_move_lem [] path v w r h = let same : v ≡ w = cc in rw (← same) (record { result = v; runs = stop; like = values_refl equal_labels v })
undo_move_lem (t ∷ ts) path v w r h =
    let (x, e, i) = both_ok (walk (t ∷ ts) v) _ w h in
    let (left, f, j) = both_ok (remove_at_path (t ∷ ts) v) _ w i in
    let is : remaining (t ∷ ts) v ≡ left = ap (result_or v) f in
    subst (λ l. Undoes (undo_moved (mended path l) (t ∷ ts) path v) w v) (sym is) (undo_moved_lem t ts path x v left w r f j)

-- AN OPERATION AND ITS UNDO
pub undo_one : (o : Operation) (v w : Value.Value) → Readable v → perform o v ≡ ok w → Undoes (undo_of o v) w v
unfolding perform undo_of copy_to
undo_one o v w r h = go o.kind h
  where
    go : (k : Kind) → perform (record { kind = k; path = o.path; from = o.from; value = o.value }) v ≡ ok w →
        Undoes (undo_of (record { kind = k; path = o.path; from = o.from; value = o.value }) v) w v
    go Kind.add h = exactly (mended o.path v) v w r (mended_back o.path o.value v w h)
    go Kind.remove h = undo_remove o.path v w r h
    go Kind.replace h = exactly (replacing o.path (value_at o.path v)) v w r (replaced_path o.path o.value v w h)
    go Kind.move h = undo_move_lem o.from o.path v w r h
    go Kind.copy h =
        let (x, e, i) = both_ok (walk o.from v) _ w h in
        exactly (mended o.path v) v w r (mended_back o.path x v w i)
    go Kind.test h =
        let (found, e, q, same) = operations.test o.path o.value v w h in
        rw same (record { result = v; runs = stop; like = values_refl equal_labels v })
