-- Laws of a location by its parent and its last token.
use Prim.Native.Nat.{ℕ, zero, suc, ◌+◌, ◌/◌, ◌%◌, ◌≤◌, ◌<◌}
use native.Mathlib.Omega.{arith}
use mathlib.Core.Path.{◌≡◌, refl, ap, sym, ◌∙◌}
use mathlib.Core.List.{[], ◌∷◌, ◌++◌, append-nil, append_assoc}
use lib.Dec.{ltb}
use borrow.Author.Tests.{ltb-true, ne_eqb}
use Rattle.spec.specs.Outcome.{ok}
use Rattle.spec.specs.Bytes.{Text}
use Rattle.spec.specs.Value as Value
use Rattle.spec.specs.Value.{value_of, depth}
use Rattle.spec.specs.Pointer.{Tokens, child_at, child, farther, walk}
use Rattle.spec.specs.Operation.{at_parent, insert_child}
use Rattle.spec.proofs.OutcomeLaws.{both_ok}
use Rattle.spec.proofs.FartherLaws.{farther_ok}
use Rattle.spec.proofs.PlaceLaws.{walk_on, plant_walk, depth_plant}
use Rattle.claims.specs.Pointers.{escape_character, escape_token, pointer_of}
use Rattle.reversal.specs.Undo.{result_or, value_at, digits_before, index_token, parent_tokens, last_token}
use Rattle.reversal.proofs.IndexToken.{by_test}

-- all tokens but the last, and the last, are all
pub parent_last : (t : Text) (ts : Tokens) → parent_tokens t ts ++ (last_token t ts ∷ []) ≡ t ∷ ts
unfolding parent_tokens last_token
parent_last t [] = refl
parent_last t (u ∷ ts) = ap (◌∷◌ t) (parent_last u ts)

pub pointer_then : (ps : Tokens) (x : Text) → pointer_of (ps ++ (x ∷ [])) ≡ pointer_of ps ++ (47 ∷ escape_token x)
unfolding pointer_of
pointer_then [] x = ap (◌∷◌ 47) (append-nil (escape_token x))
pointer_then (p ∷ ps) x =
    ap (λ r. 47 ∷ (escape_token p ++ r)) (pointer_then ps x) ∙ ap (◌∷◌ 47) (sym (append_assoc (escape_token p) (pointer_of ps) (47 ∷ escape_token x)))

-- ---- an index has no character that is escaped
digit-escape : (n : ℕ) → n < 10 → escape_character (48 + n) ≡ (48 + n) ∷ []
unfolding escape_character
digit-escape n h = rw (ne_eqb (48 + n) 126 (λ e. omega arith), ne_eqb (48 + n) 47 (λ e. omega arith))

digits-escape : (fuel n : ℕ) (after : Text) → escape_token after ≡ after → escape_token (digits_before fuel n after) ≡ digits_before fuel n after
unfolding digits_before escape_token
digits-escape zero n after h = h
digits-escape (suc fuel) n after h =
    by_test (ltb n 10) (λ q. rw (q, digit-escape n (ltb-true n 10 q), h))
    λ q. rw q (digits-escape fuel (n / 10) ((48 + n % 10) ∷ after) (rw (digit-escape (n % 10) (omega arith), h)))

pub index_escape : (n : ℕ) → escape_token (index_token n) ≡ index_token n
unfolding index_token escape_token
index_escape n = digits-escape (suc n) n [] refl

-- ---- the parent of a location where a value is added
pub record Parent (new : Value.Value) (t : Text) (ts : Tokens) (v : Value.Value) : Type 0 where
  pub value : Value.Value
  pub there : walk (parent_tokens t ts) v ≡ ok value
  pub result : Value.Value
  pub added : insert_child new (last_token t ts) value ≡ ok result

pub parent_there : (new : Value.Value) (t : Text) (ts : Tokens) (v w : Value.Value) → at_parent (insert_child new) t ts v ≡ ok w → Parent new t ts v
unfolding at_parent parent_tokens last_token walk farther
parent_there new t [] v w h = record { value = v; there = refl; result = w; added = h }
parent_there new t (u ∷ ts) v w h =
    let (k, e, i) = both_ok (child_at t v) _ w h in
    let (y, f, j) = both_ok (farther (at_parent (insert_child new) u ts (value_of (child k v)))) _ w i in
    let p = parent_there new u ts (value_of (child k v)) y (farther_ok _ f) in
    record { value = p.value; there = walk_on t (parent_tokens u ts) v k e ∙ ap farther p.there; result = p.result; added = p.added }

-- ---- what a walk leads to
pub value-walked : (ts : Tokens) (v w : Value.Value) → walk ts v ≡ ok w → value_at ts v ≡ w
unfolding value_at result_or
value-walked ts v w e = rw e

-- it nests no deeper than the value where it begins
pub depth_walked : (ts : Tokens) (v w : Value.Value) → walk ts v ≡ ok w → depth w ≤ depth v
depth_walked ts v w e = omega (arith, depth_plant ts v w e w, ap depth (plant_walk ts v w e))
