-- Results: what `walk` and `perform` give is what RFC 6901 and RFC 6902 say, specs/Effects.
use Rattle.std.specs.Prelude.{if◌then◌else◌}
use mathlib.Core.Path.{◌≡◌, refl, ap, sym, subst, ◌∙◌}
use mathlib.Core.Bool.{Bool, true, false}
use mathlib.Core.List.{[], ◌∷◌}
use Prim.Native.Nat.{ℕ, suc, ◌<◌}
use Prim.Native.Char.{code}
use native.Mathlib.Omega.{arith}
use borrow.Author.Tests.{lt-ltb, le-ltb}
use Rattle.spec.specs.Outcome.{Outcome, ok, refused, ◌>>=◌}
use Rattle.spec.specs.Bytes.{Text, ascii}
use Rattle.spec.specs.Forest.{none, count, before, from, insert_at, ◌⧺◌}
use Rattle.spec.specs.Value as Value
use Rattle.spec.specs.Value.{Label, Members, tag, is_array, is_object, same_text, find, has, named, value_of}
use Rattle.spec.specs.Equality.{equal}
use Rattle.spec.specs.Pointer.{Tokens, is_dash, element_below, member_named, child_at, child, farther, walk}
use Rattle.spec.specs.Operation.{Kind, Operation, put, at_parent, insert_element, insert_member, insert_child, remove_child, replace_child}
use Rattle.spec.specs.Operation.{add_at, remove_at_path, replace_at_path, move_to, copy_to, test_at, perform}
use Rattle.spec.specs.Effects as Effects
use Rattle.spec.specs.Effects.{ArrayIndex, holding, node, Child, Evaluates, root, step, Below, there, deeper}
use Rattle.spec.specs.Effects.{Adds, Added, Removes, removed, Replaces, replaced, Performs}
use Rattle.spec.proofs.OutcomeLaws.{refused≢ok, both_ok}
use Rattle.spec.proofs.FartherLaws.{farther_ok}
use Rattle.spec.proofs.TextLaws.{same_text_true}
use Rattle.spec.proofs.ChildLaws.{element_names, member-names}
use Rattle.spec.proofs.SplitLaws.{split_at, count-before, count-append, insert_split, insert_last}
use Rattle.spec.proofs.EffectsLaws.{index_of, is_index_lem, without-has, find-without, standing}
use Rattle.spec.proofs.EffectsLaws.{child_is, child-put, child_removed, child_at_lem, value_there, put_there, removed_there}

pub ok_same : {A : Type 0} {a b : A} → ok a ≡ ok b → a ≡ b
ok_same h = cc

-- The walk

pub walk_to : (ts : Tokens) (v w : Value.Value) → walk ts v ≡ ok w → Evaluates ts v w
unfolding walk
walk_to [] v w h = subst (Evaluates [] v) (ok_same h) root
walk_to (t ∷ ts) v w h =
    let (k, e, i) = both_ok (child_at t v) _ w h in
    let s = standing t v k e in
    step s.stands (walk_to ts s.value w (ap (walk ts) (sym (value_there s)) ∙ farther_ok _ i))

pub to_walk : {ts : Tokens} {v w : Value.Value} → Evaluates ts v w → walk ts v ≡ ok w
unfolding walk farther ◌>>=◌
to_walk root = refl
to_walk (step c r) = rw (child_at_lem c, child_is c, to_walk r)

-- A change at the parent

-- at the last of some tokens, and another outcome where there is none
unfoldable pub at_last : Outcome Value.Value → (Text → Value.Value → Outcome Value.Value) → Tokens → Value.Value → Outcome Value.Value
at_last otherwise change [] v = otherwise
at_last otherwise change (t ∷ ts) v = at_parent change t ts v

module _ (change : Text → Value.Value → Outcome Value.Value) (Change : Text → Value.Value → Value.Value → Type 0) where
  parent_to : ((t : Text) (v w : Value.Value) → change t v ≡ ok w → Change t v w) → (t : Text) (ts : Tokens) (v w : Value.Value) →
      at_parent change t ts v ≡ ok w → Below Change (t ∷ ts) v w
  unfolding at_parent
  parent_to to t [] v w h = there (to t v w h)
  parent_to to t (u ∷ ts) v w h =
      let (k, e, i) = both_ok (child_at t v) _ w h in
      let (y, f, j) = both_ok (farther (at_parent change u ts (value_of (child k v)))) _ w i in
      let s = standing t v k e in
      let inner = parent_to to u ts s.value y (ap (at_parent change u ts) (sym (value_there s)) ∙ farther_ok _ f) in
      subst (Below Change (t ∷ u ∷ ts) v) (put_there s y ∙ ok_same j) (deeper s.stands inner)

  to_parent : ((t : Text) (v w : Value.Value) → Change t v w → change t v ≡ ok w) → {ts : Tokens} {v w : Value.Value} → Below Change ts v w →
      at_last (refused 0 0) change ts v ≡ ok w
  unfolding at_last at_parent farther ◌>>=◌
  to_parent back (there {t} {v} {w} c) = back t v w c
  to_parent back (deeper {y = y} c b) = rw (child_at_lem c, child_is c, to_parent back b) (ap ok (child-put c y))

-- What is added

array-adds : (x : Value.Value) (t : Text) (v w : Value.Value) → v.label ≡ Label.array → insert_element x t v ≡ ok w → Adds x t v w
unfolding insert_element is_dash ascii insert_at ◌⧺◌
array-adds x t v w l h =
    let (k, e, i) = both_ok (if is_dash t then ok (count v.kids) else element_below (suc (count v.kids)) t) _ w h in
    go (is_dash t) refl k e (ok_same i)
  where
    go : (b : Bool) → is_dash t ≡ b → (k : ℕ) → (if b then ok (count v.kids) else element_below (suc (count v.kids)) t) ≡ ok k →
        holding v (insert_at k (named [] x) v.kids) ≡ w → Adds x t v w
    go true q k e i =
        let last : holding v (v.kids ⧺ node [] x none) ≡ w =
        ap (holding v) (sym (insert_last (named [] x) v.kids)) ∙ ap (λ k. holding v (insert_at k (named [] x) v.kids)) (ok_same e) ∙ i in
        rw (same_text_true t (ascii "-") q) (subst (Adds x (code "-" ∷ []) v) last (Effects.appended l))
    go false q k e i =
        let (index, value, below) = element_names (suc (count v.kids)) t k e in
        let place = count-before k v.kids (omega arith) in
        subst (Adds x t v) i
        (Effects.element (before k v.kids) (from k v.kids) l (split_at k v.kids) (subst (ArrayIndex t) (sym value ∙ sym place) (index_of t index)))

pub member-there : (t : Text) (v : Value.Value) → v.label ≡ Label.object → has t v.kids ≡ true → child_at t v ≡ ok (find t v.kids)
unfolding child_at is_array is_object tag member_named
member-there t v l h = rw (l, h)

object-adds : (x : Value.Value) (t : Text) (v w : Value.Value) → v.label ≡ Label.object → insert_member x t v ≡ w → Adds x t v w
unfolding insert_member
object-adds x t v w l h = go (has t v.kids) refl h
  where
    go : (b : Bool) → has t v.kids ≡ b →
        (if b then put (find t v.kids) x v else holding v (insert_at (count v.kids) (named t x) v.kids)) ≡ w → Adds x t v w
    go true q i =
        let s = standing t v (find t v.kids) (member-there t v l q) in
        subst (Adds x t v) (put_there s x ∙ i) (Effects.existing-member l s.stands)
    go false q i =
        let last : holding v (v.kids ⧺ node t x none) ≡ w = ap (holding v) (sym (insert_last (named t x) v.kids)) ∙ i in
        subst (Adds x t v) last (Effects.new-member l (without-has t v.kids q))

pub insert-array : (x : Value.Value) (t : Text) (v : Value.Value) → v.label ≡ Label.array → insert_child x t v ≡ insert_element x t v
unfolding insert_child is_array tag
insert-array x t v l = rw l

pub insert-object : (x : Value.Value) (t : Text) (v : Value.Value) → v.label ≡ Label.object → insert_child x t v ≡ ok (insert_member x t v)
unfolding insert_child is_array is_object tag
insert-object x t v l = rw l

adds_to : (x : Value.Value) (t : Text) (v w : Value.Value) → insert_child x t v ≡ ok w → Adds x t v w
unfolding insert_child is_array is_object tag
adds_to x t v w h = go v.label refl
  where
    is : (l : Label) → v.label ≡ l → insert_child x t (record { label = l; kids = v.kids }) ≡ ok w
    is l q = rw (← q) h

    go : (l : Label) → v.label ≡ l → Adds x t v w
    go Label.null_literal q = absurd (refused≢ok (is Label.null_literal q))
    go Label.true_literal q = absurd (refused≢ok (is Label.true_literal q))
    go Label.false_literal q = absurd (refused≢ok (is Label.false_literal q))
    go Label.array q = array-adds x t v w q (sym (insert-array x t v q) ∙ h)
    go Label.object q = object-adds x t v w q (ok_same (sym (insert-object x t v q) ∙ h))
    go (Label.number s) q = absurd (refused≢ok (is (Label.number s) q))
    go (Label.string s) q = absurd (refused≢ok (is (Label.string s) q))

pub object-child : (t : Text) (v : Value.Value) → v.label ≡ Label.object → child_at t v ≡ member_named t v.kids
unfolding child_at is_array is_object tag
object-child t v l = rw l

-- an object that has the member which stands there
pub member-found : {t name : Text} {v x : Value.Value} {earlier later : Members} → v.label ≡ Label.object → Child t v name x earlier later →
    (count earlier ≡ find t v.kids) × (has t v.kids ≡ true)
member-found {t} {v = v} {earlier = earlier} l c =
    let (place, below) = member-names t v.kids (count earlier) (sym (object-child t v l) ∙ child_at_lem c) in
    (place, lt-ltb (find t v.kids) (count v.kids) (omega arith))

to_adds : (x : Value.Value) (t : Text) (v w : Value.Value) → Adds x t v w → insert_child x t v ≡ ok w
unfolding insert_member insert_element element_below ◌>>=◌ is_dash same_text ascii
to_adds x t v w (Effects.new-member l without) =
    let none_so = le-ltb (count v.kids) (count v.kids) (omega arith) in
    insert-object x t v l ∙ ap ok (rw (find-without without, none_so, insert_member) (ap (holding v) (insert_last (named t x) v.kids)))
to_adds x t v w (Effects.existing-member l c) =
    let (place, found) = member-found l c in
    insert-object x t v l ∙ ap ok (rw (found, insert_member, ← place) (child-put c x))
to_adds x t v w (Effects.element b a l is i) =
    let (index, value, no_dash) = is_index_lem i in
    let below : count b < suc (count v.kids) = rw is (omega (arith, count-append b a)) in
    insert-array x t v l ∙ rw (no_dash, index, value, lt-ltb _ _ below) (ap (λ f. ok (holding v f)) (rw is (insert_split b a (named [] x))))
to_adds x t v w (Effects.appended l) = insert-array x t v l ∙ ap (λ f. ok (holding v f)) (insert_last (named [] x) v.kids)

-- What is removed, and what is replaced

removes_to : (t : Text) (v w : Value.Value) → remove_child t v ≡ ok w → Removes t v w
unfolding remove_child
removes_to t v w h =
    let (k, e, i) = both_ok (child_at t v) _ w h in
    let s = standing t v k e in
    subst (Removes t v) (removed_there s ∙ ok_same i) (removed s.stands)

to_removes : (t : Text) (v w : Value.Value) → Removes t v w → remove_child t v ≡ ok w
unfolding remove_child ◌>>=◌
to_removes t v w (removed c) = rw (child_at_lem c) (ap ok (child_removed c))

replaces_to : (x : Value.Value) (t : Text) (v w : Value.Value) → replace_child x t v ≡ ok w → Replaces x t v w
unfolding replace_child
replaces_to x t v w h =
    let (k, e, i) = both_ok (child_at t v) _ w h in
    let s = standing t v k e in
    subst (Replaces x t v) (put_there s x ∙ ok_same i) (replaced s.stands)

to_replaces : (x : Value.Value) (t : Text) (v w : Value.Value) → Replaces x t v w → replace_child x t v ≡ ok w
unfolding replace_child ◌>>=◌
to_replaces x t v w (replaced c) = rw (child_at_lem c) (ap ok (child-put c x))

-- At a path

pub add_to : (ts : Tokens) (x v w : Value.Value) → add_at ts x v ≡ ok w → Added x ts v w
unfolding add_at
add_to [] x v w h = subst (Added x [] v) (ok_same h) Effects.root
add_to (t ∷ ts) x v w h = Effects.below (parent_to (insert_child x) (Adds x) (adds_to x) t ts v w h)

pub to_add : (ts : Tokens) (x v w : Value.Value) → Added x ts v w → add_at ts x v ≡ ok w
unfolding add_at at_last
to_add ts x v w Effects.root = refl
to_add [] x v w (Effects.below b) = absurd (refused≢ok (to_parent (insert_child x) (Adds x) (to_adds x) b))
to_add (t ∷ ts) x v w (Effects.below b) = to_parent (insert_child x) (Adds x) (to_adds x) b

pub remove_to : (ts : Tokens) (v w : Value.Value) → remove_at_path ts v ≡ ok w → Below Removes ts v w
unfolding remove_at_path
remove_to [] v w h = absurd (refused≢ok h)
remove_to (t ∷ ts) v w h = parent_to remove_child Removes removes_to t ts v w h

pub to_remove : (ts : Tokens) (v w : Value.Value) → Below Removes ts v w → remove_at_path ts v ≡ ok w
unfolding remove_at_path at_last
to_remove [] v w b = absurd (refused≢ok (to_parent remove_child Removes to_removes b))
to_remove (t ∷ ts) v w b = to_parent remove_child Removes to_removes b

replace_to : (t : Text) (ts : Tokens) (x v w : Value.Value) → replace_at_path (t ∷ ts) x v ≡ ok w → Below (Replaces x) (t ∷ ts) v w
unfolding replace_at_path
replace_to t ts x v w h = parent_to (replace_child x) (Replaces x) (replaces_to x) t ts v w h

to_replace : (ts : Tokens) (x v w : Value.Value) → Below (Replaces x) ts v w → replace_at_path ts x v ≡ ok w
unfolding replace_at_path at_last
to_replace [] x v w b = absurd (refused≢ok (to_parent (replace_child x) (Replaces x) (to_replaces x) b))
to_replace (t ∷ ts) x v w b = to_parent (replace_child x) (Replaces x) (to_replaces x) b

-- The six operations

module _ (o : Operation) (v w : Value.Value) where
  replaced_to : o.kind ≡ Kind.replace → (ts : Tokens) → o.path ≡ ts → replace_at_path ts o.value v ≡ ok w → Performs o v w
  unfolding replace_at_path
  replaced_to q [] e h = subst (Performs o v) (ok_same h) (Effects.replace_root q e)
  replaced_to q (t ∷ ts) e h = Effects.replace q (subst (λ ts. Below (Replaces o.value) ts v w) (sym e) (replace_to t ts o.value v w h))

  moved_to : o.kind ≡ Kind.move → (ts : Tokens) → o.from ≡ ts → move_to ts o.path v ≡ ok w → Performs o v w
  unfolding move_to
  moved_to q [] e h = subst (Performs o v) (ok_same h) (Effects.move_root q e)
  moved_to q (t ∷ ts) e h =
      let (x, f, i) = both_ok (walk (t ∷ ts) v) _ w h in
      let (left, g, j) = both_ok (remove_at_path (t ∷ ts) v) _ w i in
      let there' = subst (λ ts. Evaluates ts v x) (sym e) (walk_to (t ∷ ts) v x f) in
      let gone = subst (λ ts. Below Removes ts v left) (sym e) (remove_to (t ∷ ts) v left g) in
      Effects.move q there' gone (add_to o.path x left w j)

  copied_to : o.kind ≡ Kind.copy → copy_to o.from o.path v ≡ ok w → Performs o v w
  unfolding copy_to
  copied_to q h =
      let (x, f, i) = both_ok (walk o.from v) _ w h in
      Effects.copy q (walk_to o.from v x f) (add_to o.path x v w i)

  tested_to : o.kind ≡ Kind.test → test_at o.path o.value v ≡ ok w → Performs o v w
  unfolding test_at
  tested_to q h =
      let (found, f, i) = both_ok (walk o.path v) _ w h in
      go found f (equal found o.value) refl i
    where
      go : (found : Value.Value) → walk o.path v ≡ ok found → (b : Bool) → equal found o.value ≡ b → (if b then ok v else refused 15 0) ≡ ok w →
          Performs o v w
      go found f true e i = subst (Performs o v) (ok_same i) (Effects.test q (walk_to o.path v found f) e)
      go found f false e i = absurd (refused≢ok i)

  pub performs_to : perform o v ≡ ok w → Performs o v w
  unfolding perform
  performs_to h = go o.kind refl h
    where
      go : (k : Kind) → o.kind ≡ k → perform (record { kind = k; path = o.path; from = o.from; value = o.value }) v ≡ ok w → Performs o v w
      go Kind.add q h = Effects.add q (add_to o.path o.value v w h)
      go Kind.remove q h = Effects.remove q (remove_to o.path v w h)
      go Kind.replace q h = replaced_to q o.path refl h
      go Kind.move q h = moved_to q o.from refl h
      go Kind.copy q h = copied_to q h
      go Kind.test q h = tested_to q h

-- the root is not removed
not_root : (ts : Tokens) (x : Value.Value) {v left w : Value.Value} → Below Removes ts v left → walk ts v ≡ ok x → (path : Tokens) → add_at path x left ≡ ok w →
    move_to ts path v ≡ ok w
unfolding move_to remove_at_path ◌>>=◌ at_last
not_root [] x b e path h = absurd (refused≢ok (to_parent remove_child Removes to_removes b))
not_root (t ∷ ts) x {v} {left} b e path h = rw (e, to_remove (t ∷ ts) v left b) h

pub to_performs : (o : Operation) (v w : Value.Value) → Performs o v w → perform o v ≡ ok w
unfolding perform replace_at_path move_to copy_to test_at ◌>>=◌
to_performs o v w (Effects.add q a) = rw q (to_add o.path o.value v w a)
to_performs o v w (Effects.remove q b) = rw q (to_remove o.path v w b)
to_performs o v w (Effects.replace q b) = rw q (to_replace o.path o.value v w b)
to_performs o v w (Effects.replace_root q e) = rw (q, e)
to_performs o v w (Effects.move {x} {left} q e b a) = rw q (not_root o.from x b (to_walk e) o.path (to_add o.path x left w a))
to_performs o v w (Effects.move_root q e) = rw (q, e)
to_performs o v w (Effects.copy {x} q e a) = rw (q, to_walk e) (to_add o.path x v w a)
to_performs o v w (Effects.test q e same) = rw (q, to_walk e, same)
