-- Equality of values as a relation: the values of a container are alike one by one, those of an object in some order. It is an equivalence, with or
-- without repeated names.
use mathlib.Core.Path.{◌≡◌, refl, sym, ◌∙◌}
use mathlib.Core.Bool.{Bool, true, false}
use Rattle.spec.specs.Forest.{Forest, none, tree}
use Rattle.spec.specs.Value.{Entry, Members, is_object}
use Rattle.claims.specs.Equality.{Permuted, empty, same, swap, more}
use Rattle.claims.proofs.LabelLaws.{SameLabels, same_refl, same_sym, same_trans, is_object_same}

-- the second forest is the first with a tree put in somewhere
pub data Inserted {A : Type 0} (a : A) (kids : Forest A) : Forest A → Forest A → Type 0 where
  here : {f : Forest A} → Inserted a kids f (tree a kids f)
  there : {b : A} {below f g : Forest A} → Inserted a kids f g → Inserted a kids (tree b below f) (tree b below g)

pub data Alike : Bool → Members → Members → Type 0 where
  nothing : {object : Bool} → Alike object none none
  element : {e p : Entry} {kids below f g : Members} → SameLabels e.label p.label → Alike (is_object e.label) kids below →
      Alike false f g → Alike false (tree e kids f) (tree p below g)
  member : {e p : Entry} {kids below f g g' : Members} → e.name ≡ p.name → SameLabels e.label p.label →
      Alike (is_object e.label) kids below → Inserted p below g g' → Alike true f g → Alike true (tree e kids f) g'

pub alike_refl : (object : Bool) (f : Members) → Alike object f f
alike_refl object none = nothing
alike_refl true (tree e kids f) = member refl (same_refl _) (alike_refl (is_object e.label) kids) here (alike_refl true f)
alike_refl false (tree e kids f) = element (same_refl _) (alike_refl (is_object e.label) kids) (alike_refl false f)

-- what is put in on both sides may stand anywhere on the left
inserted_alike : {e p : Entry} {kids below f f' g : Members} → p.name ≡ e.name → SameLabels p.label e.label →
    Alike (is_object p.label) below kids → Inserted p below f f' → Alike true f g → Alike true f' (tree e kids g)
inserted_alike n s k here a = member n s k here a
inserted_alike n s k (there i) (member n' s' k' j a) = member n' s' k' (there j) (inserted_alike n s k i a)

pub alike_sym : {object : Bool} {f g : Members} → Alike object f g → Alike object g f
alike_sym nothing = nothing
alike_sym (element s k a) = element (same_sym s) (rw (is_object_same s) at (alike_sym k)) (alike_sym a)
alike_sym (member n s k i a) = inserted_alike (sym n) (same_sym s) (rw (is_object_same s) at (alike_sym k)) i (alike_sym a)

-- Two trees put in one after the other may be put in in either order.
record Exchanged {A : Type 0} (a b : A) (kids below : Forest A) (f h : Forest A) : Type 0 where
  between : Forest A
  first : Inserted b below f between
  second : Inserted a kids between h

exchange : {A : Type 0} {a b : A} {kids below f g h : Forest A} → Inserted a kids f g → Inserted b below g h → Exchanged a b kids below f h
exchange i here = record { between = _; first = here; second = there i }
exchange here (there j) = record { between = _; first = j; second = here }
exchange (there i) (there j) =
    let x = exchange i j in
    record { between = _; first = there x.first; second = there x.second }

-- what is put in on the left has a counterpart on the right that it is like
record Counterpart (e : Entry) (kids f h : Members) : Type 0 where
  entry : Entry
  below : Members
  rest : Members
  names : e.name ≡ entry.name
  labels : SameLabels e.label entry.label
  alike : Alike (is_object e.label) kids below
  place : Inserted entry below rest h
  others : Alike true f rest

counterpart : {e : Entry} {kids f g h : Members} → Inserted e kids f g → Alike true g h → Counterpart e kids f h
counterpart here (member n s k i a) = record { entry = _; below = _; rest = _; names = n; labels = s; alike = k; place = i; others = a }
counterpart (there i) (member n s k j a) =
    let c = counterpart i a in
    let x = exchange c.place j in
    record {
      entry = c.entry;
      below = c.below;
      rest = x.between;
      names = c.names;
      labels = c.labels;
      alike = c.alike;
      place = x.second;
      others = member n s k x.first c.others;
    }

pub alike_trans : {object : Bool} {f g h : Members} → Alike object f g → Alike object g h → Alike object f h
alike_trans nothing nothing = nothing
alike_trans (element s k a) (element t l b) = element (same_trans s t) (alike_trans k (rw (← is_object_same s) at l)) (alike_trans a b)
alike_trans (member n s k i a) b =
    let c = counterpart i b in
    member (n ∙ c.names) (same_trans s c.labels) (alike_trans k (rw (← is_object_same s) at c.alike)) c.place
    (alike_trans a c.others)

pub permuted_alike : {object : Bool} {f g : Members} → Permuted object f g → Alike object f g
permuted_alike empty = nothing
permuted_alike (same {object = true} k a) = member refl (same_refl _) (permuted_alike k) here (permuted_alike a)
permuted_alike (same {object = false} k a) = element (same_refl _) (permuted_alike k) (permuted_alike a)
permuted_alike swap = member refl (same_refl _) (alike_refl _ _) (there here) (alike_refl true _)
permuted_alike (more a b) = alike_trans (permuted_alike a) (permuted_alike b)
