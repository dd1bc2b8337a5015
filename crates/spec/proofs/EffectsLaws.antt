-- Tokens as RFC 6901 has them, and the child that a token names.
use Rattle.std.specs.Prelude.{if◌then◌else◌}
use mathlib.Core.Path.{◌≡◌, refl, ap, sym, subst, ◌∙◌}
use mathlib.Core.Bool.{Bool, true, false, ◌&&◌, true≢false}
use mathlib.Core.List.{[], ◌∷◌}
use Prim.Native.Nat.{ℕ, suc, ◌<◌, ◌≤◌}
use native.Mathlib.Omega.{arith}
use native.Mathlib.Decide.{ℕ_discrete}
use lib.Dec.{leb}
use borrow.Author.Tests.{le-leb, leb-true, lt-ltb, ltb-false, le-ltb, ne_eqb}
use Rattle.spec.specs.Outcome.{ok}
use Rattle.spec.specs.Bytes.{Text, ascii, within}
use Rattle.spec.specs.Numbers.{is_digit}
use Rattle.spec.specs.Worth.{decimal}
use Rattle.spec.specs.Forest.{none, tree, count, before, from, remove_at, ◌⧺◌}
use Rattle.spec.specs.Value as Value
use Rattle.spec.specs.Value.{Members, tag, is_array, is_object, same_text, find, has, named, value_of}
use Rattle.spec.specs.Pointer.{all_digits, is_index, is_dash, element_below, member_named, child_at, child}
use Rattle.spec.specs.Operation.{put}
use Rattle.spec.specs.Effects.{Digits, no_more, digit, ArrayIndex, zero, nonzero, Without, nothing, another, node, holding, Child, member, element}
use Rattle.spec.proofs.TextLaws.{both_true, same_text_true, same_text_refl, same_text_false, same_text-apart}
use Rattle.spec.proofs.ForestLaws.{name_find}
use Rattle.spec.proofs.ChildLaws as ChildLaws
use Rattle.spec.proofs.ChildLaws.{Names, names}
use Rattle.spec.proofs.SplitLaws.{split, count-before, count-append, nth_split, replace_split, remove_split}

-- Array indices

range : {low high n : ℕ} → within low high n ≡ true → (low ≤ n) × (n ≤ high)
unfolding within
range {low} {high} {n} h = let q = both_true (leb low n) (leb n high) h in (leb-true low n q.0, leb-true n high q.1)

in_range : (low high n : ℕ) → low ≤ n → n ≤ high → within low high n ≡ true
unfolding within
in_range low high n l h = rw (le-leb low n l, le-leb n high h)

all_digits_lem : (s : Text) → all_digits s ≡ true → Digits s
unfolding all_digits is_digit
all_digits_lem [] h = no_more
all_digits_lem (c ∷ s) h =
    let q = both_true (is_digit c) (all_digits s) h in
    let r = range q.0 in
    digit r.0 r.1 (all_digits_lem s q.1)

digits_all : {s : Text} → Digits s → all_digits s ≡ true
unfolding all_digits is_digit
digits_all no_more = refl
digits_all (digit {d} l h ds) = rw (in_range 48 57 d l h, digits_all ds)

pub index_of : (t : Text) → is_index t ≡ true → ArrayIndex t (decimal 0 t)
unfolding is_index is_digit decimal all_digits
index_of [] h = absurd (true≢false (sym h))
index_of (c ∷ []) h = go (ℕ_discrete c 48) (range h)
  where
    go : Dec (c ≡ 48) → (48 ≤ c) × (c ≤ 57) → ArrayIndex (c ∷ []) (decimal 0 (c ∷ []))
    go (yes e) r = rw e zero
    go (no n) r = nonzero {d = c} (omega arith) r.1 no_more
index_of (c ∷ d ∷ s) h =
    let q = both_true (within 49 57 c) (is_digit d && all_digits s) h in
    let r = range q.0 in
    nonzero r.0 r.1 (all_digits_lem (d ∷ s) q.1)

pub is_index_lem : {t : Text} {k : ℕ} → ArrayIndex t k → (is_index t ≡ true) × (decimal 0 t ≡ k) × (is_dash t ≡ false)
unfolding is_index is_digit decimal is_dash ascii same_text within
is_index_lem zero = (refl, refl, refl)
is_index_lem (nonzero {d} l h no_more) = (in_range 48 57 d (omega arith) h, refl, rw (ne_eqb d 45 (λ e. omega arith)))
is_index_lem (nonzero {d} l h (digit {d = e} m i ds)) =
    (rw (in_range 49 57 d l h, in_range 48 57 e m i, digits_all ds), refl, rw (ne_eqb d 45 (λ q. omega arith)))

-- The child that a token names

pub without-has : (n : Text) (f : Members) → has n f ≡ false → Without n f
unfolding find count
without-has n none h = nothing
without-has n (tree e kids rest) h = go (same_text e.name n) refl (ltb-false (find n (tree e kids rest)) (suc (count rest)) h) (without-has n rest)
  where
    go : (b : Bool) → same_text e.name n ≡ b → suc (count rest) ≤ (if b then 0 else suc (find n rest)) → (has n rest ≡ false → Without n rest) →
        Without n (tree e kids rest)
    go true q h ih = absurd (omega arith)
    go false q h ih = another (same_text_false e.name n q) (ih (le-ltb (find n rest) (count rest) (omega arith)))

pub find-without : {n : Text} {f : Members} → Without n f → find n f ≡ count f
unfolding find count
find-without nothing = refl
find-without {n} (another {e} d w) = rw (same_text-apart e.name n d) (ap suc (find-without w))

-- and behind members that do not have the name
find_behind : {n : Text} {b : Members} (x : Value.Value) (g : Members) → Without n b → find n (b ⧺ node n x g) ≡ count b
unfolding find count ◌⧺◌
find_behind {n} x g nothing = rw (same_text_refl n)
find_behind {n} x g (another {e} d w) = rw (same_text-apart e.name n d) (ap suc (find_behind x g w))

without-before : (n : Text) (f : Members) → Without n (before (find n f) f)
unfolding find before
without-before n none = nothing
without-before n (tree e kids rest) = go (same_text e.name n) refl (without-before n rest)
  where
    go : (b : Bool) → same_text e.name n ≡ b → Without n (before (find n rest) rest) →
        Without n (before (if b then 0 else suc (find n rest)) (tree e kids rest))
    go true q w = nothing
    go false q w = another (same_text_false e.name n q) w

-- the child that a token names, with what stands before and after it
pub record Standing (t : Text) (v : Value.Value) (k : ℕ) : Type 0 where
  pub name : Text
  pub value : Value.Value
  pub earlier : Members
  pub later : Members
  pub stands : Child t v name value earlier later
  pub place : count earlier ≡ k

pub standing : (t : Text) (v : Value.Value) (k : ℕ) → child_at t v ≡ ok k → Standing t v k
unfolding child
standing t v k h = go (names t v k h)
  where
    go : Names t v k → Standing t v k
    go (ChildLaws.element l i e c) =
        let cut = count-before k v.kids (omega arith) in
        record {
          name = (child k v).root.name;
          value = value_of (child k v);
          earlier = before k v.kids;
          later = from (suc k) v.kids;
          stands = element l (split _ k v.kids c) (subst (ArrayIndex t) (sym e ∙ sym cut) (index_of t i));
          place = cut;
        }
    go (ChildLaws.member l e c) =
        let called = same_text_true (child k v).root.name t (rw e (name_find _ t v.kids (omega arith))) in
        record {
          name = t;
          value = value_of (child k v);
          earlier = before k v.kids;
          later = from (suc k) v.kids;
          stands =
              member l (split _ k v.kids c ∙ ap (λ n. before k v.kids ⧺ node n (value_of (child k v)) (from (suc k) v.kids)) called)
              (rw e (without-before t v.kids));
          place = count-before k v.kids (omega arith);
        }

-- what holds of a child that stands there
kids_are : {t name : Text} {v x : Value.Value} {earlier later : Members} → Child t v name x earlier later → v.kids ≡ earlier ⧺ node name x later
kids_are (member l is w) = is
kids_are (element l is i) = is

module _ {t name : Text} {v x : Value.Value} {earlier later : Members} where
  pub child_is : Child t v name x earlier later → child (count earlier) v ≡ named name x
  unfolding child
  child_is c = rw (kids_are c) (nth_split _ earlier _ _ later)

  pub child-put : Child t v name x earlier later → (y : Value.Value) → put (count earlier) y v ≡ holding v (earlier ⧺ node name y later)
  unfolding put
  child-put c y = rw (child_is c, kids_are c) (ap (holding v) (replace_split earlier _ _ later (named name y)))

  pub child_removed : Child t v name x earlier later → holding v (remove_at (count earlier) v.kids) ≡ holding v (earlier ⧺ later)
  child_removed c = rw (kids_are c) (ap (holding v) (remove_split earlier _ _ later))

  child-counted : Child t v name x earlier later → count earlier < count v.kids
  unfolding count
  child-counted c = rw (kids_are c) (omega (arith, count-append earlier (node name x later)))

pub child_at_lem : {t name : Text} {v x : Value.Value} {earlier later : Members} → Child t v name x earlier later → child_at t v ≡ ok (count earlier)
unfolding child_at is_array is_object tag member_named element_below
child_at_lem {t} {v = v} {x} {earlier} {later} (member l is w) =
    let c : Child t v t x earlier later = member l is w in
    let place : find t v.kids ≡ count earlier = rw is (find_behind x later w) in
    rw (l, place, lt-ltb (count earlier) (count v.kids) (child-counted c))
child_at_lem {t} {name} {v} {x} {earlier} {later} (element l is i) =
    let c : Child t v name x earlier later = element l is i in
    let (index, value, no_dash) = is_index_lem i in
    rw (l, no_dash, index, value, lt-ltb (count earlier) (count v.kids) (child-counted c))

-- the same for the child at the place that a token names
module _ {t : Text} {v : Value.Value} {k : ℕ} (s : Standing t v k) where
  pub value_there : value_of (child k v) ≡ s.value
  value_there = ap (λ k. value_of (child k v)) (sym s.place) ∙ ap value_of (child_is s.stands)

  pub put_there : (y : Value.Value) → holding v (s.earlier ⧺ node s.name y s.later) ≡ put k y v
  put_there y = sym (child-put s.stands y) ∙ ap (λ k. put k y v) s.place

  pub removed_there : holding v (s.earlier ⧺ s.later) ≡ holding v (remove_at k v.kids)
  removed_there = sym (child_removed s.stands) ∙ ap (λ k. holding v (remove_at k v.kids)) s.place
