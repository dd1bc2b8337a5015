-- What the words of the node table satisfy besides forming a tree: each name has its hash, each number is within the limits, and each string stands between
-- quotation marks in one of the two texts. The reader lays down no other words, and every operation keeps them so.
use Rattle.std.specs.Prelude.{ℕ, ◌+◌, ◌≤◌, ◌≡◌, true}
use Rattle.spec.specs.Forest.{Forest, tree, size}
use Rattle.spec.specs.Write.{write_characters}
use Rattle.decimal.specs.Normal.{within_limits}
use Rattle.tape.specs.Layout.{number_kind, string_kind, plain_string, escaped_string}
use Rattle.tape.specs.declared.fields.Spelling.{Spelling}
use Rattle.tape.specs.declared.fields.Name.{Name}
use Rattle.tape.specs.declared.fields.Cell.{Cell}
use Rattle.tape.specs.Cell.{Held}
use Rattle.tape.specs.Lent.{Texts, Table}
use Rattle.table.specs.All.{All}
use Rattle.table.specs.Meaning.{part_of, spelled, Hashed}

-- a string without escapes is written as it stands
pub record Verbatim (texts : Texts) (spelling : Spelling) : Type 0 where
  pub is : spelling.form ≡ plain_string → write_characters (spelled texts spelling) ≡ part_of texts spelling

-- of a name
pub record NameFits (texts : Texts) (name : Name) : Type 0 where
  pub hashed : Hashed texts name
  pub verbatim : Verbatim texts name.text

-- of a node by its kind and its value: where it is a number, its text is within the limits
pub record NumberFits (texts : Texts) (kind : ℕ) (value : Spelling) : Type 0 where
  pub is : kind ≡ number_kind → within_limits (part_of texts value) ≡ true

-- where it is a string, its text stands between quotation marks
pub record StringFits (kind : ℕ) (value : Spelling) : Type 0 where
  pub form : kind ≡ string_kind → (plain_string ≤ value.form) × (value.form ≤ escaped_string)

pub record LabelFits (texts : Texts) (kind : ℕ) (value : Spelling) : Type 0 where
  pub number : NumberFits texts kind value
  pub string : StringFits kind value
  pub verbatim : Verbatim texts value

pub record CellFits (texts : Texts) (c : Cell) : Type 0 where
  pub name : NameFits texts c.name
  pub label : LabelFits texts c.kind c.value

-- every node of a forest fits
abbrev pub Sound : Texts → Forest Cell → Type 0
Sound texts f = All (CellFits texts) f

-- the table holds a node in a row; it fits, and so do the nodes below it; its own name is free
pub record NodeHeld (w : Table) (row : ℕ) (c : Cell) (kids : Forest Cell) : Type 0 where
  pub rest : Forest Cell
  pub held : Held w.nodes row (tree c kids rest)
  pub label : LabelFits w.texts c.kind c.value
  pub sound : Sound w.texts kids

-- the table holds a forest in the rows from one up to another, and all its nodes fit
pub record RowsHeld (w : Table) (row end : ℕ) (f : Forest Cell) : Type 0 where
  pub held : Held w.nodes row f
  pub ends : row + size f ≡ end
  pub sound : Sound w.texts f

-- what holds of whatever node the table holds in a row
abbrev pub ForHeld : Table → ℕ → (Cell → Forest Cell → Type 0) → Type 0
ForHeld w row Q = (c : Cell) (kids : Forest Cell) → NodeHeld w row c kids → Q c kids
