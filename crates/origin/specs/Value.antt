-- JSON values whose nodes bear an origin: SPECIFICATION 19.1. T-11: "Every node shall carry its origin: 0 from the document, k for a value put in by
-- operation k". Apart from that they are the values of crate spec, and `forget` gives those.
use Rattle.std.specs.Prelude.{ℕ, Bool, List, [], ◌∷◌, ◌++◌}
use Rattle.spec.specs.Bytes.{Text}
use Rattle.spec.specs.Forest.{Forest, none, tree, Tree}
use Rattle.spec.specs.Value as Plain
use Rattle.spec.specs.Value.{Label}
use Rattle.tape.specs.Map.{map_forest}

pub record Entry : Type 0 where
  pub name : Text
  pub label : Label
  pub origin : ℕ

abbrev pub Members : Type 0
Members = Forest Entry

pub record Value : Type 0 where
  pub label : Label
  pub origin : ℕ
  pub kids : Members

abbrev pub leaf : ℕ → Label → Value
leaf k l = record { label = l; origin = k; kids = none }

-- a value under a name, and without it
abbrev pub named : Text → Value → Tree Entry
named n v = record { root = record { name = n; label = v.label; origin = v.origin }; kids = v.kids }

abbrev pub value_of : Tree Entry → Value
value_of t = record { label = t.root.label; origin = t.root.origin; kids = t.kids }

-- ---- without origins
abbrev pub forget_entry : Entry → Plain.Entry
forget_entry e = record { name = e.name; label = e.label }

abbrev pub forget_members : Members → Plain.Members
forget_members f = map_forest forget_entry f

abbrev pub forget : Value → Plain.Value
forget v = record { label = v.label; kids = forget_members v.kids }

-- ---- with one origin: "all nodes of it". A document that was read bears 0.
abbrev pub painted_entry : ℕ → Plain.Entry → Entry
painted_entry k e = record { name = e.name; label = e.label; origin = k }

abbrev pub painted : ℕ → Plain.Value → Value
painted k v = record { label = v.label; origin = k; kids = map_forest (painted_entry k) v.kids }

-- ---- the origins, "one for each value in the order of their first written bytes": each container before what is in it, members in order
unfoldable pub origins_of : Members → List ℕ
origins_of none = []
origins_of (tree e kids rest) = e.origin ∷ (origins_of kids ++ origins_of rest)

unfoldable pub origins : Value → List ℕ
origins v = v.origin ∷ origins_of v.kids

-- ---- what looks at no origin is that of the plain value
abbrev pub depth : Value → ℕ
depth v = Plain.depth (forget v)

abbrev pub nodes : Value → ℕ
nodes v = Plain.nodes (forget v)

abbrev pub find : Text → Members → ℕ
find n f = Plain.find n (forget_members f)

abbrev pub has : Text → Members → Bool
has n f = Plain.has n (forget_members f)
