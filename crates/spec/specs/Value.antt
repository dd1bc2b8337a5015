-- JSON values: RFC 8259, section 3. A value has a label and the values in it; a container's are its elements or members, in order.
use Rattle.std.specs.Prelude.{ℕ, suc, max, [], ◌∷◌, Bool, true, false, ◌&&◌, leb, ltb, eqb, if◌then◌else◌}
use Rattle.spec.specs.Bytes.{Bytes, Text}
use Rattle.spec.specs.Forest.{Forest, none, tree, Tree, count, size}

pub data Label : Type 0 where
  null_literal true_literal false_literal array object : Label
  -- by its source text
  number : Bytes → Label
  -- by its unescaped text
  string : Text → Label

-- What a node of a value bears: its label and, of an object's member, its name. The root and an array's element have the empty name.
pub record Entry : Type 0 where
  pub name : Text
  pub label : Label

-- the members of an object, or the elements of an array
abbrev pub Members : Type 0
Members = Forest Entry

pub record Value : Type 0 where
  pub label : Label
  pub kids : Members

abbrev pub leaf : Label → Value
leaf l = record { label = l; kids = none }

-- a value under a name, and without it
abbrev pub named : Text → Value → Tree Entry
named n v = record { root = record { name = n; label = v.label }; kids = v.kids }

abbrev pub value_of : Tree Entry → Value
value_of t = record { label = t.root.label; kids = t.kids }

-- what kind of value a label says
unfoldable pub tag : Label → ℕ
tag null_literal = 0
tag true_literal = 1
tag false_literal = 2
tag (number t) = 3
tag (string t) = 4
tag array = 5
tag object = 6

unfoldable pub is_number : Label → Bool
is_number l = eqb (tag l) 3

unfoldable pub is_string : Label → Bool
is_string l = eqb (tag l) 4

unfoldable pub is_array : Label → Bool
is_array l = eqb (tag l) 5

unfoldable pub is_object : Label → Bool
is_object l = eqb (tag l) 6

unfoldable pub is_container : Label → Bool
is_container l = leb 5 (tag l)

-- the text of a number or a string
unfoldable pub content : Label → Text
content null_literal = []
content true_literal = []
content false_literal = []
content (number t) = t
content (string t) = t
content array = []
content object = []

-- How deep containers are nested, SPECIFICATION 1.3: "A scalar has depth 0. An empty array or object has depth 1."
unfoldable pub levels : Label → ℕ → ℕ
levels l below = if is_container l then suc below else 0

unfoldable pub depths : Members → ℕ
depths none = 0
depths (tree e kids rest) = max (levels e.label (depths kids)) (depths rest)

unfoldable pub depth : Value → ℕ
depth v = levels v.label (depths v.kids)

-- SPECIFICATION 1.3: "Each value is a node [..]. A member name is no node."
unfoldable pub nodes : Value → ℕ
nodes v = suc (size v.kids)

unfoldable pub same_text : Text → Text → Bool
same_text [] [] = true
same_text [] (b ∷ t) = false
same_text (a ∷ s) [] = false
same_text (a ∷ s) (b ∷ t) = eqb a b && same_text s t

-- the position of the member so named, or the number of members where there is none
unfoldable pub find : Text → Members → ℕ
find n none = 0
find n (tree e kids rest) = if same_text e.name n then 0 else suc (find n rest)

abbrev pub has : Text → Members → Bool
has n f = ltb (find n f) (count f)
