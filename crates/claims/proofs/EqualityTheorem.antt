-- `equal` is the RFC's equality, and on values without repeated names an equivalence that does not see the order of members.
use mathlib.Core.Path.{◌≡◌, sym, ◌∙◌}
use mathlib.Core.Logic.{◌↔◌}
use mathlib.Core.Bool.{true}
use lib.Dec.{eqb}
use borrow.Author.Tests.{eqb-true, eq-eqb}
use Rattle.spec.specs.Forest.{count}
use Rattle.spec.specs.Value as Value
use Rattle.spec.specs.Value.{is_object}
use Rattle.spec.specs.Equality.{same_label, equal}
use Rattle.spec.proofs.MatchLaws.{equal_is}
use Rattle.spec.proofs.TextLaws.{both_true}
use Rattle.spec.specs.Proper.{Proper}
use Rattle.spec.specs.Distinct.{Distinct}
use Rattle.claims.specs.Equality.{Equal, EqualityStatement}
use Rattle.claims.proofs.LabelLaws.{SameLabels, same_label_true, true_same_label, same_refl, same_sym, same_trans, is_object_same}
use Rattle.claims.proofs.Alike.{Alike, alike_refl, alike_sym, alike_trans, permuted_alike}
use Rattle.spec.proofs.NameLaws.{proper_repeats}
use Rattle.claims.proofs.EqualityRules.{same_labels, equal_labels, matches_rules, rules_match}
use Rattle.claims.proofs.Matching.{matches_true, true_matches, matches_alike, alike_count, alike_matches, alike_repeats}

-- the same of two values
record AlikeValues (v w : Value.Value) : Type 0 where
  labels : SameLabels v.label w.label
  kids : Alike (is_object v.label) v.kids w.kids

equal_alike : (v w : Value.Value) → Distinct v → equal v w ≡ true → AlikeValues v w
equal_alike v w d h =
    let q = both_true (same_label v.label w.label) _ (sym (equal_is v w) ∙ h) in
    let r = both_true (eqb (count v.kids) (count w.kids)) _ q.1 in
    record { labels = same_label_true _ _ q.0; kids = matches_alike d (matches_true _ _ _ r.1) (eqb-true _ _ r.0) }

alike_equal : (v w : Value.Value) → Distinct w → AlikeValues v w → equal v w ≡ true
alike_equal v w d a =
    let inside = true_matches (alike_matches a.kids (rw (← is_object_same a.labels) at d)) in
    equal_is v w ∙ rw (true_same_label _ _ a.labels, eq-eqb _ _ (alike_count a.kids)) inside

by_the_rules : (v w : Value.Value) → Proper v → Proper w → (equal v w ≡ true) ↔ Equal v w
by_the_rules v w p q = (
  λ h.
      let l = both_true (same_label v.label w.label) _ (sym (equal_is v w) ∙ h) in
      let c = both_true (eqb (count v.kids) (count w.kids)) _ l.1 in
      let labels = same_label_true _ _ l.0 in
      let counts = eqb-true _ _ c.0 in
      record {
        labels = equal_labels p.allows q.allows labels;
        counts = counts;
        items = matches_rules p.items (rw (← is_object_same labels) at q.items) (matches_true _ _ _ c.1) (λ _. counts);
      },
  λ e.
      let labels = same_labels e.labels in
      let items = true_matches (rules_match e.items (rw (← is_object_same labels) at (proper_repeats q.items))) in
      equal_is v w ∙ rw (true_same_label _ _ labels, eq-eqb _ _ e.counts) items,
)

pub equality : EqualityStatement
equality =
    record {
      by_the_rules = by_the_rules;
      distinct = λ v p. proper_repeats p.items;
      reflexive = λ v d. alike_equal v v d (record { labels = same_refl _; kids = alike_refl _ _ });
      symmetric = λ v w d d' h.
          let a = equal_alike v w d h in
          alike_equal w v d (record { labels = same_sym a.labels; kids = rw (is_object_same a.labels) at (alike_sym a.kids) });
      transitive = λ u v w d d' d'' h i.
          let a = equal_alike u v d h in
          let b = equal_alike v w d' i in
          alike_equal u w d''
          (record {
            labels = same_trans a.labels b.labels;
            kids = alike_trans a.kids (rw (← is_object_same a.labels) at b.kids);
          });
      unordered = λ v w d r.
          let a = permuted_alike r.kids in
          alike_equal v w (rw r.label at (alike_repeats a d)) (record { labels = rw r.label (same_refl _); kids = a });
    }
