-- A value's children by the tokens that name them: what `put` leaves, and what it changes.
use Rattle.std.specs.Prelude.{if◌then◌else◌}
use mathlib.Core.Path.{◌≡◌, refl, ap, ap₂, sym}
use mathlib.Core.Bool.{Bool, true, false}
use mathlib.Core.List.{[]}
use Prim.Native.Nat.{ℕ, suc, ◌<◌, ◌≤◌, max}
use native.Mathlib.Omega.{arith}
use lib.Dec.{ltb}
use borrow.Author.Tests.{ltb-true}
use Rattle.spec.specs.Outcome.{Outcome, ok, refused}
use Rattle.spec.specs.Bytes.{Text}
use Rattle.spec.specs.Worth.{decimal}
use Rattle.spec.specs.Forest.{none, count, replace_at}
use Rattle.spec.specs.Value.{Label, Members, find, named, value_of, depths, depth, levels, is_container, is_object, is_array, tag}
use Rattle.spec.specs.Pointer.{child_at, child, element_below, member_named, is_dash, is_index}
use Rattle.spec.specs.Operation.{put, with_kids}
use Rattle.spec.specs.Value as Value
use Rattle.spec.proofs.ForestLaws.{count-replace_at, nth-replace_at, nth-replace_at-other, replace_at-twice, replace_at_commute, replace_at-nth}
use Rattle.spec.proofs.ForestLaws.{find-replace_at, name_find, depths-nth, depths-replace_at}
use Rattle.spec.proofs.OutcomeLaws.{refused≢ok}
use Rattle.spec.proofs.TextLaws.{same_text_true, index_injective}

-- what it means that a token names the k-th child
pub data Names (t : Text) (v : Value.Value) (k : ℕ) : Type 0 where
  element : v.label ≡ Label.array → is_index t ≡ true → k ≡ decimal 0 t → k < count v.kids → Names t v k
  member : v.label ≡ Label.object → k ≡ find t v.kids → k < count v.kids → Names t v k

pub element_names : (limit : ℕ) (t : Text) (k : ℕ) → element_below limit t ≡ ok k → (is_index t ≡ true) × (k ≡ decimal 0 t) × (k < limit)
unfolding element_below
element_names limit t k h = go (is_dash t) (is_index t) (ltb (decimal 0 t) limit) refl refl h
  where
    go : (dash index less : Bool) → is_index t ≡ index → ltb (decimal 0 t) limit ≡ less →
        (if dash then refused 11 0 else if index then (if less then ok (decimal 0 t) else refused 11 0) else refused 12 0) ≡ ok k →
        (is_index t ≡ true) × (k ≡ decimal 0 t) × (k < limit)
    go true index less q r h = absurd (refused≢ok h)
    go false true true q r h =
        let value : k ≡ decimal 0 t = cc in
        (q, value, omega (arith, ltb-true (decimal 0 t) limit r))
    go false true false q r h = absurd (refused≢ok h)
    go false false less q r h = absurd (refused≢ok h)

pub member-names : (t : Text) (f : Members) (k : ℕ) → member_named t f ≡ ok k → (k ≡ find t f) × (k < count f)
unfolding member_named
member-names t f k h = go (ltb (find t f) (count f)) refl h
  where
    go : (less : Bool) → ltb (find t f) (count f) ≡ less → (if less then ok (find t f) else refused 11 0) ≡ ok k →
        (k ≡ find t f) × (k < count f)
    go true q h =
        let place : k ≡ find t f = cc in
        (place, omega (arith, ltb-true (find t f) (count f) q))
    go false q h = absurd (refused≢ok h)

pub names : (t : Text) (v : Value.Value) (k : ℕ) → child_at t v ≡ ok k → Names t v k
unfolding child_at is_array is_object tag
names t v k h = go v.label refl h
  where
    go : (l : Label) → v.label ≡ l → child_at t (record { label = l; kids = v.kids }) ≡ ok k → Names t v k
    go Label.null_literal q h = absurd (refused≢ok h)
    go Label.true_literal q h = absurd (refused≢ok h)
    go Label.false_literal q h = absurd (refused≢ok h)
    go Label.array q h = let e = element_names (count v.kids) t k h in element q e.0 e.1 e.2
    go Label.object q h = let m = member-names t v.kids k h in member q m.0 m.1
    go (Label.number s) q h = absurd (refused≢ok h)
    go (Label.string s) q h = absurd (refused≢ok h)

pub child_there : (t : Text) (v : Value.Value) (k : ℕ) → child_at t v ≡ ok k → k < count v.kids
child_there t v k h = go (names t v k h)
  where
    go : Names t v k → k < count v.kids
    go (element l i e c) = c
    go (member l e c) = c

-- two tokens that name one child are the same
pub child-apart : (t u : Text) (v : Value.Value) (k : ℕ) → child_at t v ≡ ok k → child_at u v ≡ ok k → t ≡ u
unfolding child
child-apart t u v k h i = go (names t v k h) (names u v k i)
  where
    named_so : (s : Text) → k ≡ find s v.kids → k < count v.kids → (child k v).root.name ≡ s
    named_so s e c = same_text_true _ _ (rw e (name_find _ s v.kids (omega arith)))

    go : Names t v k → Names u v k → t ≡ u
    go (element l i e c) (element m j f d) = index_injective t u i j (cc)
    go (element l i e c) (member m f d) = cc
    go (member l e c) (element m j f d) = cc
    go (member l e c) (member m f d) = cc (named_so t e c, named_so u f d)

-- A value in the place of the k-th child, under its name: which child a token names stays, and so do the other children.
module _ (k : ℕ) (x v : Value.Value) (there : k < count v.kids) where
  pub child_at-put : (t : Text) → child_at t (put k x v) ≡ child_at t v
  unfolding child_at put member_named child is_array is_object tag
  child_at-put t = go v.label
    where
      new : Members
      new = replace_at k (named (child k v).root.name x) v.kids

      go : (l : Label) → child_at t (record { label = l; kids = new }) ≡ child_at t (record { label = l; kids = v.kids })
      go Label.null_literal = refl
      go Label.true_literal = refl
      go Label.false_literal = refl
      go Label.array = rw count-replace_at
      go Label.object =
          ap₂ {C = Outcome ℕ} (λ place many. (if (ltb place many) then ok place else refused 11 0))
          (find-replace_at _ t x k v.kids there) (count-replace_at k _ v.kids there)
      go (Label.number s) = refl
      go (Label.string s) = refl

  pub child-put : child k (put k x v) ≡ named (child k v).root.name x
  unfolding child put
  child-put = nth-replace_at _ _ k v.kids there

  pub child-put-other : (l : ℕ) → (k ≡ l → ⊥) → child l (put k x v) ≡ child l v
  unfolding child put
  child-put-other l n = nth-replace_at-other _ _ k l v.kids there n

  pub put-put : (y : Value.Value) → put k y (put k x v) ≡ put k y v
  unfolding put
  put-put y = rw (child-put, replace_at-twice)

pub put-child : (k : ℕ) (v : Value.Value) → k < count v.kids → put k (value_of (child k v)) v ≡ v
unfolding put child
put-child k v there = ap (with_kids v) (replace_at-nth _ k v.kids there)

pub put_commute : (k l : ℕ) (x y v : Value.Value) → k < count v.kids → l < count v.kids → (k ≡ l → ⊥) →
    put l y (put k x v) ≡ put k x (put l y v)
unfolding put
put_commute k l x y v k-there l-there n =
    rw (child-put-other k x v k-there l n, child-put-other l y v l-there k (λ e. n (sym e)), replace_at_commute _ _ k l)

-- How deep. Only a container has children, so a child is less deep than its parent.
depth_of_parent : (t : Text) (v : Value.Value) (k : ℕ) (f : Members) → child_at t v ≡ ok k → depth (record { label = v.label; kids = f }) ≡ suc (depths f)
unfolding depth levels is_container tag
depth_of_parent t v k f h = go (names t v k h)
  where
    go : Names t v k → depth (record { label = v.label; kids = f }) ≡ suc (depths f)
    go (element l i e c) = rw l
    go (member l e c) = rw l

pub depth-child : (t : Text) (v : Value.Value) (k : ℕ) → child_at t v ≡ ok k → depth (value_of (child k v)) < depth v
unfolding child
depth-child t v k h =
    omega (
      arith,
      depth_of_parent t v k v.kids h,
      depths-nth (record { root = record { name = []; label = Label.null_literal }; kids = none }) k v.kids (child_there t v k h),
    )

pub depth-put : (t : Text) (x v : Value.Value) (k : ℕ) → child_at t v ≡ ok k →
    (depth x < depth (put k x v)) × (depth (put k x v) ≤ max (suc (depth x)) (depth v))
unfolding put
depth-put t x v k h =
    let name = (child k v).root.name in
    let d = depths-replace_at name x k v.kids (child_there t v k h) in
    omega (arith, depth_of_parent t v k v.kids h, depth_of_parent t v k (replace_at k (named name x) v.kids) h)
