-- Laws of the definitions' comparison: two containers of one kind, tree by tree.
use Rattle.std.specs.Prelude.{if◌then◌else◌}
use Prim.Native.Nat.{ℕ, zero, suc}
use native.Mathlib.Omega.{arith}
use mathlib.Core.Path.{◌≡◌, refl, sym, subst, ◌∙◌}
use mathlib.Core.Bool.{Bool, true, false, ◌&&◌, and_assoc, and-false}
use lib.Dec.{eqb, eqb-zero-suc, eqb-suc-zero, eqb-suc-suc}
use Rattle.spec.specs.Bytes.{Text}
use Rattle.spec.specs.Forest.{none, tree, count, from}
use Rattle.spec.specs.Value as Value
use Rattle.spec.specs.Value.{Entry, Members, find, same_text, is_object}
use Rattle.spec.specs.Equality.{same_label, equal}
use Rattle.spec.proofs.MatchLaws.{partner, matches, equal_is}
use Rattle.spec.proofs.TextLaws.{same_text_refl}
use Rattle.spec.specs.Distinct.{NoRepeats, empty, element, member}
use Rattle.spec.proofs.TextLaws.{same_text-apart}
use Rattle.spec.proofs.NameLaws.{found, found_absent}

-- the value that a tree is
abbrev pub value_of : Entry → Members → Value.Value
value_of e kids = record { label = e.label; kids = kids }

-- ---- the member of a name
pub partner_find : (n : Text) (g : Members) → partner true n g ≡ from (find n g) g
unfolding partner find from
partner_find n none = refl
partner_find n (tree e kids rest) = go (same_text e.name n) (partner_find n rest)
  where
    go : (t : Bool) → partner true n rest ≡ from (find n rest) rest
        → (if t then tree e kids rest else partner true n rest) ≡ from (if t then 0 else suc (find n rest)) (tree e kids rest)
    go true ih = refl
    go false ih = ih

-- ---- a tree among others where no name is repeated: no name is repeated in it, and no member before it has its name
first-inside : {o : Bool} {e : Entry} {kids rest : Members} → NoRepeats o (tree e kids rest) → NoRepeats (is_object e.label) kids
first-inside (element i r) = i
first-inside (member a i r) = i

module _ {e : Entry} {kids rest : Members} where
  pub inside : {o : Bool} {g : Members} (k : ℕ) → NoRepeats o g → from k g ≡ tree e kids rest → NoRepeats (is_object e.label) kids
  unfolding from
  inside {o} zero r h = first-inside (subst (NoRepeats o) h r)
  inside (suc k) empty h = absurd (let z : ◌≡◌ {A = ℕ} 0 1 = cc in omega arith)
  inside (suc k) (element i r) h = inside k r h
  inside (suc k) (member a i r) h = inside k r h

  pub partner_there : {g : Members} (k : ℕ) → NoRepeats true g → from k g ≡ tree e kids rest → partner true e.name g ≡ tree e kids rest
  unfolding from partner
  partner_there zero r h = subst (λ g. partner true e.name g ≡ tree e kids rest) (sym h) (rw (same_text_refl e.name))
  partner_there (suc k) empty h = absurd (let z : ◌≡◌ {A = ℕ} 0 1 = cc in omega arith)
  partner_there (suc k) (member {e = d} {rest = g} a i r) h =
      let there = partner_there k r h in
      let apart : d.name ≡ e.name → ⊥ = λ same. found_absent (found e.name g e kids rest there) (rw same at a) in
      rw (same_text-apart d.name e.name apart) there

-- ---- one tree against its partner
module _ (e : Entry) (kids f : Members) where
  matches_pair : (o : Bool) (g : Members) (p : Entry) (below after : Members) → partner o e.name g ≡ tree p below after
      → matches o (tree e kids f) g ≡ equal (value_of e kids) (value_of p below) && matches o f (if o then g else after)
  unfolding matches
  matches_pair o g p below after h = rw (h, matches, equal_is) (simp and_assoc)

  matches_alone : (o : Bool) (g : Members) → partner o e.name g ≡ none → matches o (tree e kids f) g ≡ false
  unfolding matches
  matches_alone o g h = rw (h, matches)

-- ---- What is left of a comparison of two containers, when trees of both are passed in step: f is left of one and g of the other, all of whose trees
-- are `all`. The two agree where they have equally many trees and each of f equals its partner.
unfoldable pub agree : Bool → Members → Members → Members → Bool
agree object all f g = eqb (count f) (count g) && matches object f (if object then all else g)

pub if_same : (o : Bool) (f : Members) → (if o then f else f) ≡ f
if_same true f = refl
if_same false f = refl

pub equal_agree : (v w : Value.Value) → same_label v.label w.label ≡ true → equal v w ≡ agree (is_object v.label) w.kids v.kids w.kids
unfolding agree
equal_agree v w h = equal_is v w ∙ rw (h, if_same (is_object v.label) w.kids)

module _ (o : Bool) (all : Members) where
  -- one of the two has ended
  pub agree_end : agree o all none none ≡ true
  unfolding agree count matches
  agree_end = refl

  pub agree_less : (e : Entry) (kids rest : Members) → agree o all none (tree e kids rest) ≡ false
  unfolding agree count
  agree_less e kids rest = rw (eqb-zero-suc (count rest))

  pub agree_more : (e : Entry) (kids rest : Members) → agree o all (tree e kids rest) none ≡ false
  unfolding agree count
  agree_more e kids rest = rw (eqb-suc-zero (count rest))

and_left_comm : (a b c : Bool) → (a && (b && c)) ≡ (b && (a && c))
and_left_comm true b c = refl
and_left_comm false true c = refl
and_left_comm false false c = refl

module _ (all : Members) (e : Entry) (kids f : Members) (d : Entry) (others g : Members) where
  -- an element against the next one, a member against the one of its name
  pub agree_element : agree false all (tree e kids f) (tree d others g) ≡ equal (value_of e kids) (value_of d others) && agree false all f g
  unfolding agree count partner
  agree_element =
      rw (eqb-suc-suc (count f) (count g), matches_pair e kids f false (tree d others g) d others g refl)
      (and_left_comm (eqb (count f) (count g)) (equal (value_of e kids) (value_of d others)) (matches false f g))

  pub agree-member : (p : Entry) (below after : Members) → partner true e.name all ≡ tree p below after
      → agree true all (tree e kids f) (tree d others g) ≡ equal (value_of e kids) (value_of p below) && agree true all f g
  unfolding agree count
  agree-member p below after h =
      rw (eqb-suc-suc (count f) (count g), matches_pair e kids f true all p below after h)
      (and_left_comm (eqb (count f) (count g)) (equal (value_of e kids) (value_of p below)) (matches true f all))

  pub agree_alone : partner true e.name all ≡ none → agree true all (tree e kids f) (tree d others g) ≡ false
  unfolding agree
  agree_alone h = rw (matches_alone e kids f true all h) (and-false (eqb (count (tree e kids f)) (count (tree d others g))))
