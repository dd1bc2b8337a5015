-- Cells in the table: the row of a node, and which forests the rows describe in full.
use Rattle.std.specs.Prelude.{ℕ, suc, ◌<◌, ◌≤◌, max, ◌≡◌, List, leb, if◌then◌else◌}
use Rattle.spec.specs.Forest.{Forest, none, tree, size}
use Rattle.tape.specs.Layout.{values, array_kind, object_kind, forms, sources}
use Rattle.tape.specs.Fields.{Row, row_with}
use Rattle.tape.specs.declared.fields.Spelling.{Spelling}
use Rattle.tape.specs.declared.fields.Cell.{Cell}
use Rattle.tape.specs.Tape.{Holds}

-- a node's row: what it bears, and how many nodes are below it
unfoldable pub row_of : Cell → Forest Cell → Row
row_of c kids = row_with c (size kids)

-- a text whose form and source fit a node's tags
pub record Told (s : Spelling) : Type 0 where
  pub form : s.form < forms
  pub source : s.source < sources

-- a node that its row describes in full; a scalar has no children
pub record Fit (c : Cell) (kids : Forest Cell) : Type 0 where
  pub kind : c.kind ≤ object_kind
  pub small : size kids < values
  pub scalar : c.kind < array_kind → kids ≡ none
  pub value : Told c.value
  pub name : Told c.name.text

pub data Formed : Forest Cell → Type 0 where
  formed_none : Formed none
  formed_tree : {c : Cell} {kids rest : Forest Cell} → Fit c kids → Formed kids → Formed rest → Formed (tree c kids rest)

-- how deep containers are nested, as `depths` of the definitions has it
unfoldable pub level : Cell → ℕ → ℕ
level c below = if leb array_kind c.kind then suc below else 0

unfoldable pub deep : Forest Cell → ℕ
deep none = 0
deep (tree c kids rest) = max (level c (deep kids)) (deep rest)

-- the table holds a forest from a row on
pub record Held (nodes : List Row) (at : ℕ) (f : Forest Cell) : Type 0 where
  pub after : List Row
  pub rows : Holds row_of nodes at f after
  pub formed : Formed f

-- it holds a node in a row
pub record Node (nodes : List Row) (at : ℕ) (c : Cell) (kids : Forest Cell) : Type 0 where
  pub rest : Forest Cell
  pub held : Held nodes at (tree c kids rest)
