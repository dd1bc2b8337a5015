-- Values as texts are read: RFC 8259, sections 3 to 7, at every depth, and within the limits of SPECIFICATION 1.3.
use Rattle.std.specs.Prelude.{◌≡◌, ℕ, ◌≤◌, [], ◌∷◌, Bool, true, false}
use Rattle.spec.specs.Outcome.{ok}
use Rattle.spec.specs.Limits.{max_depth, max_nodes}
use Rattle.spec.specs.Bytes.{Bytes, Text}
use Rattle.spec.specs.Forest.{none, tree}
use Rattle.spec.specs.Value as Value
use Rattle.spec.specs.Value.{Label, Entry, Members, is_object, leaf, has, depth, nodes}
use Rattle.spec.specs.Read.{read}

-- a Unicode scalar value: any code point but the surrogates, D800 to DFFF
pub data ScalarValue (c : ℕ) : Type 0 where
  below_surrogates : c ≤ 0xD7FF → ScalarValue c
  above_surrogates : 0xE000 ≤ c → c ≤ 0x10_FFFF → ScalarValue c

pub data ScalarValues : Text → Type 0 where
  nothing : ScalarValues []
  another : {c : ℕ} {cs : Text} → ScalarValue c → ScalarValues cs → ScalarValues (c ∷ cs)

-- a text that is one number from its first byte to its last
abbrev pub NumberText : Bytes → Type 0
NumberText t = read t ≡ ok (leaf (Label.number t))

-- what a label allows: a number's text is one number, a string is of characters, and only a container has values in it
pub data Allows : Label → Members → Type 0 where
  null_literal : Allows Label.null_literal none
  true_literal : Allows Label.true_literal none
  false_literal : Allows Label.false_literal none
  number : {t : Bytes} → NumberText t → Allows (Label.number t) none
  string : {cs : Text} → ScalarValues cs → Allows (Label.string cs) none
  array : {kids : Members} → Allows Label.array kids
  object : {kids : Members} → Allows Label.object kids

-- The values of a container. The first argument says whether they are an object's members, each with a name of its own, or an array's
-- elements, which have none.
pub data ProperItems : Bool → Members → Type 0 where
  empty : {object : Bool} → ProperItems object none
  element : {e : Entry} {kids rest : Members} → e.name ≡ [] → Allows e.label kids → ProperItems (is_object e.label) kids →
      ProperItems false rest → ProperItems false (tree e kids rest)
  member : {e : Entry} {kids rest : Members} → ScalarValues e.name → has e.name rest ≡ false → Allows e.label kids →
      ProperItems (is_object e.label) kids → ProperItems true rest → ProperItems true (tree e kids rest)

pub record Proper (v : Value.Value) : Type 0 where
  pub allows : Allows v.label v.kids
  pub items : ProperItems (is_object v.label) v.kids

-- proper, and within the limits: the values that texts are read as (claims, `RoundTrip`)
pub record Readable (v : Value.Value) : Type 0 where
  pub proper : Proper v
  pub shallow : depth v ≤ max_depth
  pub few : nodes v ≤ max_nodes
