-- Laws of a move: what is at `from` can be removed; and a value that holds `from` and is replaced at `path`.
use Prim.Native.Nat.{ℕ}
use mathlib.Core.Path.{◌≡◌, refl, ap, sym, ◌∙◌}
use mathlib.Core.Bool.{true, false, false≢true}
use mathlib.Core.List.{[], ◌∷◌}
use lib.Dec.{eqb}
use borrow.Author.Tests.{eqb-true}
use Rattle.spec.specs.Outcome.{ok, ◌>>=◌}
use Rattle.spec.specs.Bytes.{Text}
use Rattle.spec.specs.Forest.{remove_at}
use Rattle.spec.specs.Value as Value
use Rattle.spec.specs.Value.{Label, tag, is_array, is_object, value_of, has, same_text}
use Rattle.spec.specs.Pointer.{Tokens, child_at, child, farther, walk}
use Rattle.spec.specs.Operation.{with_kids, put, at_parent, remove_child, remove_at_path}
use Rattle.spec.specs.Patch.{proper_prefix}
use Rattle.spec.proofs.OutcomeLaws.{refused≢ok, both_ok}
use Rattle.spec.proofs.TextLaws.{both_true, same_text_true}
use Rattle.spec.proofs.FartherLaws.{farther_ok}
use Rattle.spec.proofs.PlaceLaws.{walk_on}
use Rattle.reversal.specs.Undo.{result_or, value_at, parent_tokens, last_token, mended_in, mended, is_replace}
use Rattle.reversal.proofs.IndexToken.{by_test}
use Rattle.reversal.proofs.LikeChildren.{object-child, named_nowhere}
use Rattle.reversal.proofs.Mended.{mended_element, mended_old}
use Rattle.reversal.proofs.UndoOne.{kind_below, still_there, value-put}
use Rattle.undo.specs.Mend.{Present}

-- ---- a step of a walk that succeeds
pub record Onward (t : Text) (ts : Tokens) (v w : Value.Value) : Type 0 where
  pub k : ℕ
  pub there : child_at t v ≡ ok k
  pub rest : walk ts (value_of (child k v)) ≡ ok w

pub onward : (t : Text) (ts : Tokens) (v w : Value.Value) → walk (t ∷ ts) v ≡ ok w → Onward t ts v w
unfolding walk
onward t ts v w h = let (k, e, i) = both_ok (child_at t v) _ w h in record { k = k; there = e; rest = farther_ok _ i }

-- ---- what is there can be removed
remove_there : (t : Text) (ts : Tokens) (v w : Value.Value) → walk (t ∷ ts) v ≡ ok w → (left : Value.Value) × (at_parent remove_child t ts v ≡ ok left)
unfolding at_parent remove_child farther ◌>>=◌
remove_there t [] v w h = let o = onward t [] v w h in (with_kids v (remove_at o.k v.kids), rw o.there)
remove_there t (u ∷ ts) v w h =
    let o = onward t (u ∷ ts) v w h in
    let (left, e) = remove_there u ts (value_of (child o.k v)) w o.rest in
    (put o.k left v, rw (o.there, e))

pub removes_there : (t : Text) (ts : Tokens) (v w : Value.Value) → walk (t ∷ ts) v ≡ ok w → (left : Value.Value) × (remove_at_path (t ∷ ts) v ≡ ok left)
unfolding remove_at_path
removes_there t ts v w h = remove_there t ts v w h

-- ---- what holds a value that is there, is there
pub prefix_there : (ps ts : Tokens) (v w : Value.Value) → proper_prefix ps ts ≡ true → walk ts v ≡ ok w → Present ps v
unfolding proper_prefix walk farther
prefix_there [] ts v w q h = record { value = v; is = refl }
prefix_there (p ∷ ps) [] v w q h = absurd (false≢true q)
prefix_there (p ∷ ps) (t ∷ ts) v w q h =
    let (same, rest) = both_true (same_text p t) (proper_prefix ps ts) q in
    let o = onward t ts v w h in
    let there : child_at p v ≡ ok o.k = ap (λ s. child_at s v) (same_text_true p t same) ∙ o.there in
    let below = prefix_there ps ts (value_of (child o.k v)) w rest o.rest in
    record { value = below.value; is = walk_on p ps v o.k there ∙ ap farther below.is }

-- ---- a value that holds `from`: it is replaced at `path` where its parent is an object
not_both : (l : Label) → is_array l ≡ true → is_object l ≡ false
unfolding is_array is_object
not_both l h = ap (λ n. eqb n 6) (eqb-true (tag l) 5 h)

child-object : (t : Text) (v : Value.Value) (k : ℕ) → child_at t v ≡ ok k → is_array v.label ≡ false → is_object v.label ≡ true
unfolding child_at
child-object t v k e a =
    by_test (is_object v.label) (λ o. o) λ o. absurd (refused≢ok (rw (a, o) at e))

member-there : (t : Text) (v : Value.Value) (k : ℕ) → child_at t v ≡ ok k → is_array v.label ≡ false → has t v.kids ≡ true
member-there t v k e a =
    by_test (has t v.kids) (λ h. h) λ h.
    absurd (refused≢ok (sym (named_nowhere t v.kids h) ∙ sym (object-child t v a (child-object t v k e a)) ∙ e))

-- by the parent, in which the child was changed
replaced_here : (t : Text) (v c : Value.Value) (k : ℕ) → child_at t v ≡ ok k → is_replace (mended (t ∷ []) (put k c v)).kind ≡ is_object v.label
unfolding mended parent_tokens last_token value_at walk result_or is_replace put
replaced_here t v c k e =
    by_test (is_array v.label) (λ a. rw (mended_element [] t (put k c v) a, not_both v.label a)) λ a.
    let there = member-there t (put k c v) k (still_there v t v c k e) a in
    rw (mended_old [] t (put k c v) a there, child-object t v k e a)

pub record Replaced (t : Text) (ts : Tokens) (v left : Value.Value) : Type 0 where
  pub parent : Value.Value
  pub there : walk (parent_tokens t ts) v ≡ ok parent
  pub is : is_replace (mended (t ∷ ts) left).kind ≡ is_object parent.label

replaced_below : (t s : Text) (ss : Tokens) (v c : Value.Value) (k : ℕ) → child_at t v ≡ ok k → Replaced s ss (value_of (child k v)) c
    → Replaced t (s ∷ ss) v (put k c v)
unfolding mended parent_tokens last_token farther
replaced_below t s ss v c k e r =
    let hs = parent_tokens s ss in
    record {
      parent = r.parent;
      there = walk_on t hs v k e ∙ ap farther r.there;
      is = ap (λ p. is_replace (mended_in (t ∷ hs) (last_token s ss) p).kind) (value-put v t v c k e hs)
          ∙ kind_below t hs (last_token s ss) (value_at hs c) ∙ r.is;
    }

ancestor_replaced : (t : Text) (ps us : Tokens) (v left : Value.Value) → proper_prefix ps us ≡ true → at_parent remove_child t us v ≡ ok left
    → Replaced t ps v left
unfolding proper_prefix at_parent parent_tokens walk
ancestor_replaced t [] [] v left q h = absurd (false≢true q)
ancestor_replaced t (p ∷ ps) [] v left q h = absurd (false≢true q)
ancestor_replaced t [] (u ∷ us) v left q h =
    let (k, e, h1) = both_ok (child_at t v) _ left h in
    let (c, f, h2) = both_ok (farther (at_parent remove_child u us (value_of (child k v)))) _ left h1 in
    let same : put k c v ≡ left = cc in
    rw (← same) (record { parent = v; there = refl; is = replaced_here t v c k e })
ancestor_replaced t (p ∷ ps) (u ∷ us) v left q h =
    let (k, e, h1) = both_ok (child_at t v) _ left h in
    let (c, f, h2) = both_ok (farther (at_parent remove_child u us (value_of (child k v)))) _ left h1 in
    let same : put k c v ≡ left = cc in
    let (here-same, rest) = both_true (same_text p u) (proper_prefix ps us) q in
    let token = ap (λ s. at_parent remove_child s us (value_of (child k v))) (same_text_true p u here-same) in
    rw (← same) (replaced_below t p ps v c k e (ancestor_replaced p ps us (value_of (child k v)) c rest (token ∙ farther_ok _ f)))

pub holder_replaced : (p : Text) (ps : Tokens) (t : Text) (ts : Tokens) (v left : Value.Value) → proper_prefix (p ∷ ps) (t ∷ ts) ≡ true
    → remove_at_path (t ∷ ts) v ≡ ok left → Replaced p ps v left
unfolding proper_prefix remove_at_path
holder_replaced p ps t ts v left q h =
    let (here-same, rest) = both_true (same_text p t) (proper_prefix ps ts) q in
    let token : t ≡ p = sym (same_text_true p t here-same) in
    ancestor_replaced p ps ts v left rest (rw token at h)
