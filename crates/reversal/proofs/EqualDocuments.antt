-- Equal documents answer every operation alike, and so do documents that differ in member order alone.
use mathlib.Core.Path.{◌≡◌, refl, sym, ◌∙◌}
use mathlib.Core.Bool.{Bool, true, false, true≢false}
use Prim.Native.Nat.{◌≤◌}
use lib.Dec.{eqb, leb}
use borrow.Author.Tests.{eqb-true, eq-eqb, leb-true, le-leb}
use Rattle.spec.specs.Outcome.{Outcome, ok, ◌>>=◌}
use Rattle.spec.specs.Limits.{max_depth, max_nodes}
use Rattle.spec.specs.Forest.{count}
use Rattle.spec.specs.Value as Value
use Rattle.spec.specs.Value.{depth, nodes}
use Rattle.spec.specs.Equality.{same_label, equal}
use Rattle.spec.specs.Operation.{Operation, perform, not_too_deep, not_too_large, limited}
use Rattle.spec.specs.Patch.{operation}
use Rattle.spec.proofs.OutcomeLaws.{refused≢ok, both_ok}
use Rattle.spec.proofs.MatchLaws.{equal_is}
use Rattle.spec.proofs.TextLaws.{both_true}
use Rattle.spec.specs.Proper.{Proper}
use Rattle.spec.specs.Distinct.{Distinct}
use Rattle.claims.specs.Operations.{Same, both, neither}
use Rattle.claims.proofs.CharacterScalar.{if_ok}
use Rattle.claims.proofs.LabelLaws.{SameLabels, same_label_true, true_same_label, is_object_same}
use Rattle.claims.proofs.Matching.{matches_true, true_matches, matches_alike, alike_count, alike_matches}
use Rattle.spec.proofs.NameLaws.{proper_repeats}
use Rattle.claims.proofs.EqualityTheorem.{equality}
use Rattle.claims.proofs.ProperOperations.{ProperOperation, perform_proper}
use Rattle.claims.proofs.ProperPatch.{operation_proper}
use Rattle.reversal.proofs.Like.{LikeValues, same_labels, like_alike, alike_like, like_reordered}
use Rattle.reversal.proofs.LikeOperations.{limited_like}

-- `equal` as the relation by labels that test the same
equal_like : (v w : Value.Value) → Proper v → Proper w → equal v w ≡ true → LikeValues SameLabels v w
equal_like v w p q h =
    let (l, rest) = both_true (same_label v.label w.label) _ (sym (equal_is v w) ∙ h) in
    let (c, items) = both_true (eqb (count v.kids) (count w.kids)) _ rest in
    let labels = same_label_true _ _ l in
    let alike = matches_alike (proper_repeats p.items) (matches_true _ _ _ items) (eqb-true _ _ c) in
    record { labels = labels; kids = alike_like alike p.items (rw (← is_object_same labels) at q.items) }

like_equal : (v w : Value.Value) → Proper w → LikeValues SameLabels v w → equal v w ≡ true
like_equal v w q r =
    let a = like_alike r.kids in
    let items = true_matches (alike_matches a (rw (← is_object_same r.labels) at (proper_repeats q.items))) in
    equal_is v w ∙ rw (true_same_label _ _ r.labels, eq-eqb _ _ (alike_count a)) items

-- equal values are equal to the same values
equal_to : (x u w : Value.Value) → Proper x → Proper u → Proper w → equal u w ≡ true → equal u x ≡ equal w x
equal_to x u w px pu pw h = go (equal u x) (equal w x) refl refl
  where
    dx : Distinct x
    dx = proper_repeats px.items

    du : Distinct u
    du = proper_repeats pu.items

    dw : Distinct w
    dw = proper_repeats pw.items

    go : (a b : Bool) → equal u x ≡ a → equal w x ≡ b → a ≡ b
    go true true q r = refl
    go false false q r = refl
    go true false q r = absurd (true≢false (sym (equality.transitive w u x dw du dx (equality.symmetric u w du dw h) q) ∙ r))
    go false true q r = absurd (true≢false (sym (equality.transitive u w x du dw dx h r) ∙ q))

pub reordered_equal : (v w : Value.Value) → Proper v → LikeValues ◌≡◌ v w → equal v w ≡ true
reordered_equal v w p r = equality.unordered v w (proper_repeats p.items) (like_reordered r)

-- no test sees the order of members
pub tests_reordered : (x u w : Value.Value) → Proper x → Proper u → Proper w → LikeValues ◌≡◌ u w → equal u x ≡ equal w x
tests_reordered x u w px pu pw r = equal_to x u w px pu pw (reordered_equal u w pu r)

tests_equal : (x u w : Value.Value) → Proper x → Proper u → Proper w → LikeValues SameLabels u w → equal u x ≡ equal w x
tests_equal x u w px pu pw r = equal_to x u w px pu pw (like_equal u w pw r)

-- An operation with its limits: what was performed, within them

pub record Within (w : Value.Value) : Type 0 where
  pub shallow : depth w ≤ max_depth
  pub few : nodes w ≤ max_nodes

pub limited_performs : (o : Operation) (v w : Value.Value) → limited o v ≡ ok w → (perform o v ≡ ok w) × Within w
unfolding limited not_too_deep not_too_large
limited_performs o v w h =
    let (x, e, i) = both_ok (perform o v >>= not_too_deep) _ w h in
    let (y, f, j) = both_ok (perform o v) _ x e in
    if_ok (leb (depth y) max_depth) j
    (λ deep k.
    if_ok (leb (nodes x) max_nodes) i
    (λ large l.
    let same : y ≡ x = cc in
    let same' : x ≡ w = cc in
    (f ∙ rw (same, same'), record { shallow = leb-true _ _ (rw (same, same') at deep); few = leb-true _ _ (rw same' at large) }))
    (λ _ l. absurd (refused≢ok l)))
    (λ _ k. absurd (refused≢ok k))

pub performs_limited : (o : Operation) (v w : Value.Value) → perform o v ≡ ok w → Within w → limited o v ≡ ok w
unfolding limited not_too_deep not_too_large ◌>>=◌
performs_limited o v w h i = rw (h, le-leb (depth w) max_depth i.shallow, le-leb (nodes w) max_nodes i.few)

-- EQUAL DOCUMENTS answer every operation of a patch alike
pub equal-answers : (p v w : Value.Value) (o : Operation) → Proper p → operation p ≡ ok o → Proper v → Proper w → equal v w ≡ true →
    Same (λ x y. equal x y ≡ true) (limited o v) (limited o w)
equal-answers p v w o pp e pv pw h = go (limited o v) (limited o w) refl (limited_like same_labels tests_equal o v w proper pv pw (equal_like v w pv pw h))
  where
    proper : ProperOperation o
    proper = operation_proper p o pp e

    go : (a b : Outcome Value.Value) → limited o w ≡ b → Same (LikeValues SameLabels) a b → Same (λ x y. equal x y ≡ true) a b
    go _ _ q (both {v = x} {w = y} r) = both (like_equal x y (perform_proper o w y proper pw (limited_performs o w y q).0) r)
    go _ _ q neither = neither
