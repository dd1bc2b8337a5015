-- Alike values have alike children: the child that a token names in the one is like that which it names in the other, and so is what is left
-- when both are replaced by alike values, or removed.
use Rattle.std.specs.Prelude.{if◌then◌else◌}
use mathlib.Core.Path.{◌≡◌, refl, ap, sym, subst, ◌∙◌}
use mathlib.Core.Bool.{Bool, true, false}
use mathlib.Core.List.{[]}
use Prim.Native.Nat.{ℕ, zero, suc, ◌<◌}
use native.Mathlib.Omega.{arith}
use borrow.Author.Tests.{eqb-true, ltb-true, lt-ltb}
use Rattle.spec.specs.Outcome.{Outcome, ok, refused}
use Rattle.spec.specs.Bytes.{Text}
use Rattle.spec.specs.Forest.{Forest, none, tree, Tree, single, count, before, from, insert_at, remove_at, replace_at, nth, ◌⧺◌}
use Rattle.spec.specs.Value as Value
use Rattle.spec.specs.Value.{Label, Entry, Members, tag, is_array, is_object, named, value_of, leaf, has, find}
use Rattle.spec.specs.Pointer.{child_at, child, element_below, member_named}
use Rattle.spec.specs.Operation.{put, with_kids, insert_member}
use Rattle.spec.proofs.TextLaws.{same_text_true, same_text_refl}
use Rattle.spec.proofs.ForestLaws.{name_find}
use Rattle.spec.proofs.ChildLaws.{child_there}
use Rattle.spec.specs.Proper.{Proper}
use Rattle.spec.specs.Distinct.{NoRepeats}
use Rattle.claims.proofs.Alike.{Inserted, here, there}
use Rattle.spec.proofs.TextLaws.{same_text-apart}
use Rattle.spec.proofs.NameLaws.{absent_parts}
use Rattle.claims.proofs.Found.{absent_inserted, inserted_repeats}
use Rattle.spec.proofs.NameLaws.{proper_repeats}
use Rattle.claims.proofs.RemoveAddLaws.{insert_last}
use Rattle.reversal.proofs.Like.{Labels, Like, nothing, element, member, LikeValues, counterpart, exchange, like_count, object-like, array-like}

-- A tree of a forest as one that was put in

module _ {A : Type 0} where
  inserted_nth : (z : Tree A) (k : ℕ) (f : Forest A) → k < count f → Inserted (nth z k f).root (nth z k f).kids (remove_at k f) f
  unfolding count nth remove_at before from ◌⧺◌
  inserted_nth z k none h = absurd (omega arith)
  inserted_nth z zero (tree a kids rest) h = here
  inserted_nth z (suc k) (tree a kids rest) h = there (inserted_nth z k rest (omega arith))

  inserted_replace_at : (k : ℕ) (t : Tree A) (f : Forest A) → k < count f → Inserted t.root t.kids (remove_at k f) (replace_at k t f)
  unfolding count replace_at remove_at before from ◌⧺◌
  inserted_replace_at k t none h = absurd (omega arith)
  inserted_replace_at zero t (tree a kids rest) h = here
  inserted_replace_at (suc k) t (tree a kids rest) h = there (inserted_replace_at k t rest (omega arith))

  pub inserted_last : (t : Tree A) (f : Forest A) → Inserted t.root t.kids f (f ⧺ single t)
  unfolding ◌⧺◌
  inserted_last t none = here
  inserted_last t (tree a kids rest) = there (inserted_last t rest)

-- the member of a name that no other has is the one that the name finds
pub record FoundAt (n : Text) (e : Entry) (kids f g : Members) : Type 0 where
  pub in_range : find n g < count g
  pub found : (z : Tree Entry) → nth z (find n g) g ≡ record { root = e; kids = kids }
  pub others : remove_at (find n g) g ≡ f

find_here : (e : Entry) (kids f : Members) → find e.name (tree e kids f) ≡ 0
unfolding find
find_here e kids f = rw (same_text_refl e.name)

find-later : (n : Text) (b : Entry) (below f : Members) → (b.name ≡ n → ⊥) → find n (tree b below f) ≡ suc (find n f)
unfolding find
find-later n b below f h = rw (same_text-apart b.name n h)

pub found_at : {e : Entry} {kids f g : Members} → Inserted e kids f g → has e.name f ≡ false → FoundAt e.name e kids f g
unfolding count nth remove_at before from ◌⧺◌
found_at {e} {kids} (here {f}) h =
    let place = find_here e kids f in
    record { in_range = omega arith; found = λ z. rw place; others = rw place }
found_at {e} (there {b} {below} {f} {g} i) h =
    let p = absent_parts e.name b below f h in
    let q = found_at i p.1 in
    let place = find-later e.name b below g p.0 in
    record { in_range = omega (arith, q.in_range); found = λ z. rw place (q.found z); others = rw place (ap (tree b below) q.others) }

-- what a token names, by the kind of value
module _ (t : Text) (v : Value.Value) where
  pub array-child : is_array v.label ≡ true → child_at t v ≡ element_below (count v.kids) t
  unfolding child_at
  array-child a = rw a

  pub object-child : is_array v.label ≡ false → is_object v.label ≡ true → child_at t v ≡ member_named t v.kids
  unfolding child_at
  object-child a o = rw (a, o)

  scalar-child : is_array v.label ≡ false → is_object v.label ≡ false → child_at t v ≡ refused 11 0
  unfolding child_at
  scalar-child a o = rw (a, o)

pub array-no-object : (l : Label) → is_array l ≡ true → is_object l ≡ false
unfolding is_array is_object
array-no-object l h = rw (eqb-true (tag l) 5 h)

pub named_there : (t : Text) (f : Members) → has t f ≡ true → member_named t f ≡ ok (find t f)
unfolding member_named
named_there t f h = rw h

pub named_nowhere : (t : Text) (f : Members) → has t f ≡ false → member_named t f ≡ refused 11 0
unfolding member_named
named_nowhere t f h = rw h

abbrev null_tree : Tree Entry
null_tree = named [] (leaf Label.null_literal)

module _ {L : Label → Label → Type 0} (laws : Labels L) where
  -- what is put in on both sides may stand anywhere
  inserted_like : {e p : Entry} {kids below f f' g g' : Members} → Inserted e kids f f' → e.name ≡ p.name → L e.label p.label →
      Like L (is_object e.label) kids below → Inserted p below g g' → Like L true f g → Like L true f' g'
  inserted_like here n s k j a = member n s k j a
  inserted_like (there i) n s k j (member n' s' k' j' a) =
      let x = exchange j' j in
      member n' s' k' x.second (inserted_like i n s k x.first a)

  like_absent : (n : Text) {f g : Members} → Like L true f g → has n f ≡ false → has n g ≡ false
  like_absent n nothing h = h
  like_absent n (member q s k i a) h =
      let p = absent_parts n _ _ _ h in
      absent_inserted n i (λ e. p.0 (q ∙ e)) (like_absent n a p.1)

  -- the k-th value of a container and the j-th of another belong together
  pub record Corresponding (object : Bool) (f g : Members) (k j : ℕ) : Type 0 where
    pub labels : L (nth null_tree k f).root.label (nth null_tree j g).root.label
    pub below : Like L (is_object (nth null_tree k f).root.label) (nth null_tree k f).kids (nth null_tree j g).kids
    pub puts : (x y : Value.Value) → LikeValues L x y →
        Like L object (replace_at k (named (nth null_tree k f).root.name x) f) (replace_at j (named (nth null_tree j g).root.name y) g)
    pub removals : Like L object (remove_at k f) (remove_at j g)

  elements-correspond : {f g : Members} (k : ℕ) → Like L false f g → k < count f → Corresponding false f g k k
  unfolding count nth replace_at remove_at before from ◌⧺◌
  elements-correspond k nothing h = absurd (omega arith)
  elements-correspond zero (element n s k a) h =
      record { labels = s; below = k; puts = λ x y r. element n r.labels r.kids a; removals = a }
  elements-correspond (suc i) (element n s k a) h =
      let c = elements-correspond i a (omega arith) in
      record { labels = c.labels; below = c.below; puts = λ x y r. element n s k (c.puts x y r); removals = element n s k c.removals }

  inserted_element : {f g : Members} (k : ℕ) (x y : Value.Value) → Like L false f g → LikeValues L x y →
      Like L false (insert_at k (named [] x) f) (insert_at k (named [] y) g)
  unfolding insert_at before from ◌⧺◌
  inserted_element zero x y a r = element refl r.labels r.kids a
  inserted_element (suc k) x y nothing r = element refl r.labels r.kids nothing
  inserted_element (suc k) x y (element n s b a) r = element n s b (inserted_element k x y a r)

  members-correspond : (n : Text) {f g : Members} → NoRepeats true g → Like L true f g → find n f < count f →
      (find n g < count g) × Corresponding true f g (find n f) (find n g)
  members-correspond n {f} {g} r a h =
      let c = counterpart laws (inserted_nth null_tree (find n f) f h) a in
      let name : (nth null_tree (find n f) f).root.name ≡ n = same_text_true _ _ (name_find null_tree n f h) in
      let entry : c.entry.name ≡ n = sym c.names ∙ name in
      let found = found_at c.place (inserted_repeats c.place r).2 in
      let at : FoundAt n c.entry c.below c.rest g = subst (λ m. FoundAt m c.entry c.below c.rest g) entry found in
      let there = at.found null_tree in
      let place = find n g in (
        at.in_range,
        record {
          labels = rw there c.labels;
          below = rw there c.alike;
          puts = λ x y s.
              inserted_like (inserted_replace_at (find n f) _ f h) (rw there c.names) s.labels s.kids (inserted_replace_at place _ g at.in_range)
              (rw at.others c.others);
          removals = rw at.others c.others;
        },
      )

  pub data ChildLike (v w : Value.Value) : Outcome ℕ → Outcome ℕ → Type 0 where
    corresponding : {k j : ℕ} → Corresponding (is_object v.label) v.kids w.kids k j → ChildLike v w (ok k) (ok j)
    missing : {number place : ℕ} → ChildLike v w (refused number place) (refused number place)

  elements-like : (t : Text) (v w : Value.Value) → is_array v.label ≡ true → LikeValues L v w → ChildLike v w (child_at t v) (child_at t w)
  elements-like t v w a r = rw again (go (child_at t v) refl)
    where
      no-object : is_object v.label ≡ false
      no-object = array-no-object v.label a

      kids : Like L false v.kids w.kids
      kids = rw no-object at r.kids

      again : child_at t w ≡ child_at t v
      again = array-child t w (sym (array-like laws r.labels) ∙ a) ∙ ap (λ n. element_below n t) (sym (like_count laws kids)) ∙ sym (array-child t v a)

      go : (o : Outcome ℕ) → child_at t v ≡ o → ChildLike v w o o
      go (ok k) q = corresponding {k = k} {j = k} (rw no-object (elements-correspond k kids (child_there t v k q)))
      go (refused n p) q = missing

  members-like : (t : Text) (v w : Value.Value) → is_array v.label ≡ false → is_object v.label ≡ true → NoRepeats true w.kids → LikeValues L v w →
      ChildLike v w (child_at t v) (child_at t w)
  members-like t v w a o d r =
      rw (object-child t v a o, object-child t w (sym (array-like laws r.labels) ∙ a) (sym (object-like laws r.labels) ∙ o))
      (go (has t v.kids) refl)
    where
      kids : Like L true v.kids w.kids
      kids = rw o at r.kids

      go : (b : Bool) → has t v.kids ≡ b → ChildLike v w (member_named t v.kids) (member_named t w.kids)
      go true q =
          let c = members-correspond t d kids (ltb-true (find t v.kids) (count v.kids) q) in
          rw (named_there t v.kids q, named_there t w.kids (lt-ltb (find t w.kids) (count w.kids) c.0))
          (corresponding {k = find t v.kids} {j = find t w.kids} (rw o c.1))
      go false q = rw (named_nowhere t v.kids q, named_nowhere t w.kids (like_absent t kids q)) missing

  -- WHAT A TOKEN NAMES in alike values: children that belong together, or nothing in either
  pub children_like : (t : Text) (v w : Value.Value) → Proper w → LikeValues L v w → ChildLike v w (child_at t v) (child_at t w)
  children_like t v w p r = go (is_array v.label) (is_object v.label) refl refl
    where
      same_object : is_object w.label ≡ is_object v.label
      same_object = sym (object-like laws r.labels)

      go : (a o : Bool) → is_array v.label ≡ a → is_object v.label ≡ o → ChildLike v w (child_at t v) (child_at t w)
      go true o q s = elements-like t v w q r
      go false true q s = members-like t v w q s (rw (same_object, s) at (proper_repeats p.items)) r
      go false false q s = rw (scalar-child t v q s, scalar-child t w (sym (array-like laws r.labels) ∙ q) (same_object ∙ s)) missing

  module _ {v w : Value.Value} (r : LikeValues L v w) {k j : ℕ} (c : Corresponding (is_object v.label) v.kids w.kids k j) where
    pub child_like : LikeValues L (value_of (child k v)) (value_of (child j w))
    unfolding child
    child_like = record { labels = c.labels; kids = c.below }

    pub put_like : {x y : Value.Value} → LikeValues L x y → LikeValues L (put k x v) (put j y w)
    unfolding put child
    put_like {x} {y} s = record { labels = r.labels; kids = c.puts x y s }

    pub removed_like : LikeValues L (with_kids v (remove_at k v.kids)) (with_kids w (remove_at j w.kids))
    removed_like = record { labels = r.labels; kids = c.removals }

  -- A value put in: as an element at a position, and as a member

  pub element_added : (k : ℕ) {v w x y : Value.Value} → is_array v.label ≡ true → LikeValues L v w → LikeValues L x y →
      LikeValues L (with_kids v (insert_at k (named [] x) v.kids)) (with_kids w (insert_at k (named [] y) w.kids))
  element_added k {v} {w} {x} {y} a r s =
      let no-object = array-no-object v.label a in
      record { labels = r.labels; kids = rw no-object (inserted_element k x y (rw no-object at r.kids) s) }

  pub member-added : (t : Text) {v w x y : Value.Value} → is_object v.label ≡ true → Proper w → LikeValues L v w → LikeValues L x y →
      LikeValues L (insert_member x t v) (insert_member y t w)
  unfolding insert_member
  member-added t {v} {w} {x} {y} o p r s = go (has t v.kids) refl
    where
      kids : Like L true v.kids w.kids
      kids = rw o at r.kids

      repeats : NoRepeats true w.kids
      repeats = rw (← object-like laws r.labels, o) at (proper_repeats p.items)

      go : (b : Bool) → has t v.kids ≡ b →
          LikeValues L (if b then put (find t v.kids) x v else with_kids v (insert_at (count v.kids) (named t x) v.kids)) (insert_member y t w)
      go true q =
          let c = members-correspond t repeats kids (ltb-true (find t v.kids) (count v.kids) q) in
          rw (lt-ltb (find t w.kids) (count w.kids) c.0) (put_like r {k = find t v.kids} {j = find t w.kids} (rw o c.1) s)
      go false q =
          rw (like_absent t kids q, insert_last (named t x) v.kids, insert_last (named t y) w.kids)
          record {
            labels = r.labels;
            kids = rw o (inserted_like (inserted_last (named t x) v.kids) refl s.labels s.kids (inserted_last (named t y) w.kids) kids);
          }
