-- Nodes of the table with the origins that they bear: SPECIFICATION 19.2. T-11: "A merge patch counts as operation 1, also for the empty objects it makes."
-- A view gives an origin: each as it is, for a call that lists them, or the merge's own for all, for a call that does not ask. So one contract serves both.
use Rattle.std.specs.Prelude.{ℕ, ◌≡◌}
use Rattle.spec.specs.Forest.{Forest}
use Rattle.tape.specs.declared.fields.Cell.{Cell}
use Rattle.tape.specs.Map.{map_forest}
use Rattle.tape.specs.Lent.{Texts}
use Rattle.table.specs.All.{All}
use Rattle.table.specs.Meaning.{name_text, label_of}
use Rattle.origin.specs.Value as Value
use Rattle.origin.specs.Value.{Entry, Members}
use Rattle.origin.specs.MergePatch.{merge_origin}

abbrev pub View : Type 0
View = ℕ → ℕ

abbrev pub as_they_are : View
as_they_are k = k

abbrev pub all_merged : View
all_merged k = merge_origin

abbrev pub entry_by : View → Texts → Cell → Entry
entry_by o T c = record { name = name_text T c.name; label = label_of T c.kind c.value; origin = o c.origin }

abbrev pub members_by : View → Texts → Forest Cell → Members
members_by o T f = map_forest (entry_by o T) f

-- the value that a node is
abbrev pub value_by : View → Texts → Cell → Forest Cell → Value.Value
value_by o T c kids = record { label = label_of T c.kind c.value; origin = o c.origin; kids = members_by o T kids }

-- every node bears the merge's origin
abbrev pub BearsMerge : View → Forest Cell → Type 0
BearsMerge o f = All (λ c. o c.origin ≡ merge_origin) f

-- a cell with another origin
abbrev pub cell_with : ℕ → Cell → Cell
cell_with k c = record { kind = c.kind; value = c.value; name = c.name; origin = k }
