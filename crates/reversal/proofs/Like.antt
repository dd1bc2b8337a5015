-- Values that differ in the order of members and, by a relation on labels, in their labels. Where labels are equal, the values are reordered; where labels
-- test the same, the values are equal. What holds of any such relation is proved once.
use mathlib.Core.Path.{◌≡◌, refl, ap, sym, ◌∙◌}
use mathlib.Core.Bool.{Bool, true, false}
use Prim.Native.Nat.{ℕ, suc, ◌+◌, max}
use native.Mathlib.Omega.{arith}
use Rattle.spec.specs.Forest.{Forest, none, tree, count, size}
use Rattle.spec.specs.Value as Value
use Rattle.spec.specs.Value.{Label, Entry, Members, tag, is_array, is_object, is_container, levels, depths, depth, nodes}
use Rattle.claims.specs.Equality.{Permuted, empty, same, swap, more, Reordered}
use Rattle.spec.specs.Proper as Proper
use Rattle.spec.specs.Proper.{ProperItems}
use Rattle.claims.proofs.LabelLaws.{SameLabels, same_refl, same_trans, is_object_same}
use Rattle.claims.proofs.RemoveAddLaws.{permuted_refl}
use Rattle.claims.proofs.Alike.{Inserted, here, there, Alike}
use Rattle.claims.proofs.Found.{count_inserted, inserted_absent}

-- what is asked of a relation on labels
pub record Labels (L : Label → Label → Type 0) : Type 0 where
  pub whole : (l : Label) → L l l
  pub both : {k l m : Label} → L k l → L l m → L k m
  pub tags : {l m : Label} → L l m → tag l ≡ tag m

pub data Like (L : Label → Label → Type 0) : Bool → Members → Members → Type 0 where
  nothing : {object : Bool} → Like L object none none
  element : {e p : Entry} {kids below f g : Members} → e.name ≡ p.name → L e.label p.label → Like L (is_object e.label) kids below →
      Like L false f g → Like L false (tree e kids f) (tree p below g)
  member : {e p : Entry} {kids below f g g' : Members} → e.name ≡ p.name → L e.label p.label → Like L (is_object e.label) kids below →
      Inserted p below g g' → Like L true f g → Like L true (tree e kids f) g'

pub record LikeValues (L : Label → Label → Type 0) (v w : Value.Value) : Type 0 where
  pub labels : L v.label w.label
  pub kids : Like L (is_object v.label) v.kids w.kids

-- two trees put in one after the other may be put in in either order
pub record Exchanged {A : Type 0} (a b : A) (kids below : Forest A) (f h : Forest A) : Type 0 where
  pub between : Forest A
  pub first : Inserted b below f between
  pub second : Inserted a kids between h

pub exchange : {A : Type 0} {a b : A} {kids below f g h : Forest A} → Inserted a kids f g → Inserted b below g h → Exchanged a b kids below f h
exchange i here = record { between = _; first = here; second = there i }
exchange here (there j) = record { between = _; first = j; second = here }
exchange (there i) (there j) =
    let x = exchange i j in
    record { between = _; first = there x.first; second = there x.second }

size_inserted : {A : Type 0} {a : A} {kids f g : Forest A} → Inserted a kids f g → size g ≡ suc (size kids + size f)
unfolding size
size_inserted here = refl
size_inserted (there i) = omega (arith, size_inserted i)

depths_inserted : {e : Entry} {kids f g : Members} → Inserted e kids f g → depths g ≡ max (levels e.label (depths kids)) (depths f)
unfolding depths
depths_inserted here = refl
depths_inserted (there i) = omega (arith, depths_inserted i)

module _ {L : Label → Label → Type 0} (laws : Labels L) where
  pub object-like : {l m : Label} → L l m → is_object l ≡ is_object m
  unfolding is_object
  object-like h = rw (laws.tags h)

  pub array-like : {l m : Label} → L l m → is_array l ≡ is_array m
  unfolding is_array
  array-like h = rw (laws.tags h)

  levels_like : {l m : Label} (n : ℕ) → L l m → levels l n ≡ levels m n
  unfolding levels is_container
  levels_like n h = rw (laws.tags h)

  pub like_refl : (object : Bool) (f : Members) → Like L object f f
  like_refl object none = nothing
  like_refl true (tree e kids f) = member refl (laws.whole _) (like_refl (is_object e.label) kids) here (like_refl true f)
  like_refl false (tree e kids f) = element refl (laws.whole _) (like_refl (is_object e.label) kids) (like_refl false f)

  -- what is put in on the left has a counterpart on the right, which it is like
  pub record Counterpart (e : Entry) (kids f h : Members) : Type 0 where
    pub entry : Entry
    pub below : Members
    pub rest : Members
    pub names : e.name ≡ entry.name
    pub labels : L e.label entry.label
    pub alike : Like L (is_object e.label) kids below
    pub place : Inserted entry below rest h
    pub others : Like L true f rest

  pub counterpart : {e : Entry} {kids f g h : Members} → Inserted e kids f g → Like L true g h → Counterpart e kids f h
  counterpart here (member n s k i a) = record { entry = _; below = _; rest = _; names = n; labels = s; alike = k; place = i; others = a }
  counterpart (there i) (member n s k j a) =
      let c = counterpart i a in
      let x = exchange c.place j in
      record {
        entry = c.entry;
        below = c.below;
        rest = x.between;
        names = c.names;
        labels = c.labels;
        alike = c.alike;
        place = x.second;
        others = member n s k x.first c.others;
      }

  pub like_trans : {object : Bool} {f g h : Members} → Like L object f g → Like L object g h → Like L object f h
  like_trans nothing nothing = nothing
  like_trans (element n s k a) (element m t l b) = element (n ∙ m) (laws.both s t) (like_trans k (rw (← object-like s) at l)) (like_trans a b)
  like_trans (member n s k i a) b =
      let c = counterpart i b in
      member (n ∙ c.names) (laws.both s c.labels) (like_trans k (rw (← object-like s) at c.alike)) c.place (like_trans a c.others)

  -- as many values, nodes and levels
  pub like_count : {object : Bool} {f g : Members} → Like L object f g → count f ≡ count g
  unfolding count
  like_count nothing = refl
  like_count (element n s k a) = ap suc (like_count a)
  like_count (member n s k i a) = ap suc (like_count a) ∙ sym (count_inserted i)

  like_size : {object : Bool} {f g : Members} → Like L object f g → size f ≡ size g
  unfolding size
  like_size nothing = refl
  like_size (element n s k a) = omega (arith, like_size k, like_size a)
  like_size (member n s k i a) = omega (arith, like_size k, like_size a, size_inserted i)

  like_depths : {object : Bool} {f g : Members} → Like L object f g → depths f ≡ depths g
  unfolding depths
  like_depths nothing = refl
  like_depths (element n s k a) = rw (like_depths k, levels_like _ s, like_depths a)
  like_depths (member n s k i a) = rw (like_depths k, levels_like _ s, like_depths a) (sym (depths_inserted i))

  pub values_refl : (v : Value.Value) → LikeValues L v v
  values_refl v = record { labels = laws.whole _; kids = like_refl _ _ }

  pub values_trans : {u v w : Value.Value} → LikeValues L u v → LikeValues L v w → LikeValues L u w
  values_trans a b = record { labels = laws.both a.labels b.labels; kids = like_trans a.kids (rw (← object-like a.labels) at b.kids) }

  pub nodes_like : {v w : Value.Value} → LikeValues L v w → nodes v ≡ nodes w
  unfolding nodes
  nodes_like a = ap suc (like_size a.kids)

  pub depth_like : {v w : Value.Value} → LikeValues L v w → depth v ≡ depth w
  unfolding depth
  depth_like a = rw (like_depths a.kids, levels_like _ a.labels)

-- With labels that test the same, it is the relation that `equal` tests.
pub same_labels : Labels SameLabels
same_labels = record { whole = same_refl; both = same_trans; tags = λ h. h.tags }

inserted_proper : {e : Entry} {kids f g : Members} → Inserted e kids f g → ProperItems true g → ProperItems (is_object e.label) kids × ProperItems true f
inserted_proper here (Proper.member n h a k p) = (k, p)
inserted_proper (there i) (Proper.member n h a k p) =
    let q = inserted_proper i p in
    (q.0, Proper.member n (inserted_absent _ i h).1 a k q.1)

pub like_alike : {object : Bool} {f g : Members} → Like SameLabels object f g → Alike object f g
like_alike nothing = Alike.nothing
like_alike (element n s k a) = Alike.element s (like_alike k) (like_alike a)
like_alike (member n s k i a) = Alike.member n s (like_alike k) i (like_alike a)

pub alike_like : {object : Bool} {f g : Members} → Alike object f g → ProperItems object f → ProperItems object g → Like SameLabels object f g
alike_like Alike.nothing p q = nothing
alike_like (Alike.element s k a) (Proper.element n _ i p) (Proper.element m _ j q) =
    element (n ∙ sym m) s (alike_like k i (rw (← is_object_same s) at j)) (alike_like a p q)
alike_like (Alike.member n s k i a) (Proper.member _ _ _ inside p) q =
    let (below, rest) = inserted_proper i q in
    member n s (alike_like k inside (rw (← is_object_same s) at below)) i (alike_like a p rest)

-- With equal labels, it is to be reordered.
pub equal_labels : Labels ◌≡◌
equal_labels = record { whole = λ l. refl; both = λ p q. p ∙ q; tags = ap tag }

pub permuted_like : {object : Bool} {f g : Members} → Permuted object f g → Like ◌≡◌ object f g
permuted_like empty = nothing
permuted_like (same {object = true} k r) = member refl refl (permuted_like k) here (permuted_like r)
permuted_like (same {object = false} k r) = element refl refl (permuted_like k) (permuted_like r)
permuted_like swap = member refl refl (like_refl equal_labels _ _) (there here) (like_refl equal_labels true _)
permuted_like (more p q) = like_trans equal_labels (permuted_like p) (permuted_like q)

to_its_place : {e : Entry} {kids f g : Members} → Inserted e kids f g → Permuted true (tree e kids f) g
to_its_place here = permuted_refl true _
to_its_place (there i) = more swap (same (permuted_refl _ _) (to_its_place i))

entry_path : (e p : Entry) → e.name ≡ p.name → e.label ≡ p.label → e ≡ p
entry_path e p n l = λ i. record { name = n i; label = l i }

pub like_permuted : {object : Bool} {f g : Members} → Like ◌≡◌ object f g → Permuted object f g
like_permuted nothing = empty
like_permuted (element {e} {p} n l k a) = rw (← entry_path e p n l) (same (like_permuted k) (like_permuted a))
like_permuted (member {e} {p} {below = below} {g = g} {g' = g'} n l k i a) =
    let place : Permuted true (tree e below g) g' = rw (entry_path e p n l) (to_its_place i) in
    more (same (like_permuted k) (like_permuted a)) place

pub reordered_like : {v w : Value.Value} → Reordered v w → LikeValues ◌≡◌ v w
reordered_like r = record { labels = r.label; kids = permuted_like r.kids }

pub like_reordered : {v w : Value.Value} → LikeValues ◌≡◌ v w → Reordered v w
like_reordered a = record { label = a.labels; kids = like_permuted a.kids }
