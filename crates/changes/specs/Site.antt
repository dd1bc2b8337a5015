-- Where a change is made: a node of the table, among the rows in use.
use Rattle.std.specs.Prelude.{ℕ, suc, ◌+◌, ◌≤◌, ◌≡◌, List, length}
use Rattle.spec.specs.Limits.{max_nodes}
use Rattle.spec.specs.Forest.{Forest, tree, size}
use Rattle.spec.specs.Value.{depth}
use Rattle.tape.specs.Layout.{patch_row, rows}
use Rattle.tape.specs.Fields.{Row}
use Rattle.tape.specs.Tape.{Laid}
use Rattle.tape.specs.declared.fields.Cell.{Cell}
use Rattle.tape.specs.Cell.{row_of, Formed}
use Rattle.tape.specs.Lent.{Texts, Table}
use Rattle.table.specs.Meaning.{meant}
use Rattle.table.specs.Sound.{LabelFits, Sound, NodeHeld}

-- what stands around a node: the trees behind it, the rows before it, and the rows behind those trees
pub record Surroundings : Type 0 where
  pub rest : Forest Cell
  pub front : List Row
  pub back : List Row

-- a node stands in `row`, within the first `used` rows, with the nodes below it and with these surroundings
pub record Standing (T : Texts) (nodes : List Row) (used row : ℕ) (around : Surroundings) (c : Cell) (kids : Forest Cell) : Type 0 where
  pub laid : Laid row_of nodes used around.front (tree c kids around.rest) around.back
  pub place : row ≡ length around.front
  pub formed : Formed (tree c kids around.rest)
  pub label : LabelFits T c.kind c.value
  pub sound : Sound T kids

-- A node that stands among at most as many rows as a document may have, in a table of the work area's length; its value nests at most `levels`
-- containers. `room` is how many nodes it may have so that the rows in use stay within that limit.
pub record Site (w : Table) (used row levels : ℕ) : Type 0 where
  pub around : Surroundings
  pub c : Cell
  pub kids : Forest Cell
  pub room : ℕ
  pub standing : Standing w.texts w.nodes used row around c kids
  pub few : used ≤ max_nodes
  pub fits : used + room ≡ max_nodes + suc (size kids)
  pub shallow : depth (meant w.texts c kids) ≤ levels
  pub long : rows ≤ length w.nodes

-- a tree that stands behind the document's rows: a value of the patch, or one on its way
pub record Offered (w : Table) (source : ℕ) (c : Cell) (kids : Forest Cell) : Type 0 where
  pub behind : patch_row ≤ source
  pub held : NodeHeld w source c kids

-- these texts with this list of nodes
abbrev pub table : Texts → List Row → Table
table T nodes = record { texts = T; nodes = nodes }
