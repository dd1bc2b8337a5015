-- What `equal` means: it is the equality of RFC 6902, section 4.6, rule by rule. On values without repeated names, which is every value
-- that a text is read as, it is an equivalence and does not see the order of an object's members.
use Rattle.std.specs.Prelude.{◌≡◌, ◌↔◌, Bool, true, false}
use Rattle.spec.specs.Bytes.{Bytes, Text}
use Rattle.spec.specs.Forest.{none, tree, count}
use Rattle.spec.specs.Value as Value
use Rattle.spec.specs.Value.{Label, Entry, Members, is_object}
use Rattle.spec.specs.Equality.{equal}
use Rattle.spec.specs.Proper.{Proper}
use Rattle.spec.specs.Distinct.{Distinct}
use Rattle.claims.specs.Numbers.{Exact, Writes, SameNumber}

-- "Here, "equal" means that the value at the target location and the value conveyed by "value" are of the same JSON type, and that they are
-- considered equal by the following rules for that type":
pub data EqualLabels : Label → Label → Type 0 where
  -- "strings: are considered equal if they contain the same number of Unicode characters and their code points are byte-by-byte equal."
  strings : {cs : Text} → EqualLabels (Label.string cs) (Label.string cs)
  -- "numbers: are considered equal if their values are numerically equal."
  numbers : {s t : Bytes} {x y : Exact} → Writes s x → Writes t y → SameNumber x y → EqualLabels (Label.number s) (Label.number t)
  -- "literals (false, true, and null): are considered equal if they are the same."
  falses : EqualLabels Label.false_literal Label.false_literal
  trues : EqualLabels Label.true_literal Label.true_literal
  nulls : EqualLabels Label.null_literal Label.null_literal
  -- arrays and objects: by the values in them
  arrays : EqualLabels Label.array Label.array
  objects : EqualLabels Label.object Label.object

-- a member of an object, with the values in it
pub data Has (p : Entry) (below : Members) : Members → Type 0 where
  here : {rest : Members} → Has p below (tree p below rest)
  there : {e : Entry} {kids rest : Members} → Has p below rest → Has p below (tree e kids rest)

-- The values of two arrays (false) or two objects (true) that have equally many.
pub data EqualItems : Bool → Members → Members → Type 0 where
  -- arrays: "if each value can be considered equal to the value at the corresponding position in the other array"
  no-elements : EqualItems false none none
  elements : {e p : Entry} {kids below f g : Members} → EqualLabels e.label p.label → count kids ≡ count below →
      EqualItems (is_object e.label) kids below → EqualItems false f g → EqualItems false (tree e kids f) (tree p below g)
  -- objects: "if each member can be considered equal to a member in the other object, by comparing their keys (as strings) and their values"
  no-members : {g : Members} → EqualItems true none g
  members : {e p : Entry} {kids below f g : Members} → Has p below g → e.name ≡ p.name → EqualLabels e.label p.label →
      count kids ≡ count below → EqualItems (is_object e.label) kids below → EqualItems true f g → EqualItems true (tree e kids f) g

pub record Equal (v w : Value.Value) : Type 0 where
  pub labels : EqualLabels v.label w.label
  -- "if they contain the same number of values", or of members
  pub counts : count v.kids ≡ count w.kids
  pub items : EqualItems (is_object v.label) v.kids w.kids

-- "An object is an unordered collection" (RFC 8259, section 1): the second members are the first with neighbours exchanged, any number of
-- times and at any depth. An array's elements stay in order.
pub data Permuted : Bool → Members → Members → Type 0 where
  empty : {object : Bool} → Permuted object none none
  same : {object : Bool} {e : Entry} {kids kids' rest rest' : Members} → Permuted (is_object e.label) kids kids' → Permuted object rest rest' →
      Permuted object (tree e kids rest) (tree e kids' rest')
  swap : {d e : Entry} {kids below rest : Members} → Permuted true (tree d kids (tree e below rest)) (tree e below (tree d kids rest))
  more : {object : Bool} {f g h : Members} → Permuted object f g → Permuted object g h → Permuted object f h

-- two values that differ in member order alone
pub record Reordered (v w : Value.Value) : Type 0 where
  pub label : v.label ≡ w.label
  pub kids : Permuted (is_object v.label) v.kids w.kids

pub record EqualityStatement : Type 0 where
  pub by_the_rules : (v w : Value.Value) → Proper v → Proper w → (equal v w ≡ true) ↔ Equal v w
  pub distinct : (v : Value.Value) → Proper v → Distinct v
  pub reflexive : (v : Value.Value) → Distinct v → equal v v ≡ true
  pub symmetric : (v w : Value.Value) → Distinct v → Distinct w → equal v w ≡ true → equal w v ≡ true
  pub transitive : (u v w : Value.Value) → Distinct u → Distinct v → Distinct w → equal u v ≡ true → equal v w ≡ true → equal u w ≡ true
  -- "Also, note that ordering of the serialization of object members is not significant."
  pub unordered : (v w : Value.Value) → Distinct v → Reordered v w → equal v w ≡ true
