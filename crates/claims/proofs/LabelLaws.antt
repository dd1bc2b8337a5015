-- Labels that test the same: a relation that is reflexive, symmetric and transitive.
use Rattle.std.specs.Prelude.{if◌then◌else◌}
use mathlib.Core.Path.{◌≡◌, refl, ap, sym, ◌∙◌}
use mathlib.Core.Bool.{Bool, true, false, true≢false}
use lib.Dec.{eqb}
use lib.IntN.{ℤ, pos, negsuc}
use borrow.Author.Tests.{eqb-true, eq-eqb}
use Rattle.spec.specs.Worth.{Worth, worth}
use Rattle.spec.specs.Value.{Label, tag, is_number, is_object, content, same_text}
use Rattle.spec.specs.Equality.{same_bool, same_integer, same_worth, same_label}
use Rattle.spec.proofs.TextLaws.{both_true, same_text_true, same_text_refl}

pub same_bool_true : (a b : Bool) → same_bool a b ≡ true → a ≡ b
unfolding same_bool
same_bool_true true true h = refl
same_bool_true true false h = cc
same_bool_true false true h = cc
same_bool_true false false h = refl

pub same_bool_refl : (a : Bool) → same_bool a a ≡ true
unfolding same_bool
same_bool_refl true = refl
same_bool_refl false = refl

pub same_integer_true : (m n : ℤ) → same_integer m n ≡ true → m ≡ n
unfolding same_integer
same_integer_true (pos m) (pos n) h = ap pos (eqb-true m n h)
same_integer_true (pos m) (negsuc n) h = cc
same_integer_true (negsuc m) (pos n) h = cc
same_integer_true (negsuc m) (negsuc n) h = ap negsuc (eqb-true m n h)

pub same_integer_refl : (m : ℤ) → same_integer m m ≡ true
unfolding same_integer
same_integer_refl (pos m) = eq-eqb m m refl
same_integer_refl (negsuc m) = eq-eqb m m refl

pub worth_path : (v w : Worth) → v.negative ≡ w.negative → v.significand ≡ w.significand → v.power ≡ w.power → v ≡ w
worth_path v w n s p = λ i. record { negative = n i; significand = s i; power = p i }

pub same_worth_true : (v w : Worth) → same_worth v w ≡ true → v ≡ w
unfolding same_worth
same_worth_true v w h =
    let q = both_true (same_bool v.negative w.negative) _ h in
    let r = both_true (same_text v.significand w.significand) _ q.1 in
    worth_path v w (same_bool_true _ _ q.0) (same_text_true _ _ r.0) (same_integer_true _ _ r.1)

pub same_worth_refl : (v : Worth) → same_worth v v ≡ true
unfolding same_worth
same_worth_refl v = rw (same_bool_refl, same_text_refl, same_integer_refl)

-- what it means that two labels test the same
pub record SameLabels (l m : Label) : Type 0 where
  pub tags : tag l ≡ tag m
  pub worths : is_number l ≡ true → worth (content l) ≡ worth (content m)
  pub contents : is_number l ≡ false → content l ≡ content m

pub same_label_true : (l m : Label) → same_label l m ≡ true → SameLabels l m
unfolding same_label
same_label_true l m h = let q = both_true (eqb (tag l) (tag m)) _ h in go (is_number l) refl (eqb-true _ _ q.0) q.1
  where
    go : (number : Bool) → is_number l ≡ number → tag l ≡ tag m →
        (if number then same_worth (worth (content l)) (worth (content m)) else same_text (content l) (content m)) ≡ true → SameLabels l m
    go true n t h = record { tags = t; worths = λ _. same_worth_true _ _ h; contents = λ o. absurd (true≢false (sym n ∙ o)) }
    go false n t h = record { tags = t; worths = λ o. absurd (true≢false (sym o ∙ n)); contents = λ _. same_text_true _ _ h }

pub true_same_label : (l m : Label) → SameLabels l m → same_label l m ≡ true
unfolding same_label
true_same_label l m s = rw (eq-eqb _ _ s.tags) (go (is_number l) refl)
  where
    go : (number : Bool) → is_number l ≡ number →
        (if number then same_worth (worth (content l)) (worth (content m)) else same_text (content l) (content m)) ≡ true
    go true n = rw (s.worths n) (same_worth_refl _)
    go false n = rw (s.contents n) (same_text_refl _)

-- whether a label is a number, or an object, goes by its tag
pub is_number_same : {l m : Label} → SameLabels l m → is_number l ≡ is_number m
unfolding is_number
is_number_same s = rw s.tags

pub is_object_same : {l m : Label} → SameLabels l m → is_object l ≡ is_object m
unfolding is_object
is_object_same s = rw s.tags

pub same_refl : (l : Label) → SameLabels l l
same_refl l = record { tags = refl; worths = λ _. refl; contents = λ _. refl }

pub same_sym : {l m : Label} → SameLabels l m → SameLabels m l
same_sym s =
    record {
      tags = sym s.tags;
      worths = λ n. sym (s.worths (is_number_same s ∙ n));
      contents = λ n. sym (s.contents (is_number_same s ∙ n));
    }

pub same_trans : {k l m : Label} → SameLabels k l → SameLabels l m → SameLabels k m
same_trans s t =
    record {
      tags = s.tags ∙ t.tags;
      worths = λ n. s.worths n ∙ t.worths (sym (is_number_same s) ∙ n);
      contents = λ n. s.contents n ∙ t.contents (sym (is_number_same s) ∙ n);
    }
