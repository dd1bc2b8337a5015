-- The children of a node cut in three, to exchange those in the middle.
use Rattle.std.specs.Prelude.{ℕ, ◌+◌, ◌≡◌}
use Rattle.spec.specs.Forest.{Forest, Tree, size, ◌⧺◌}
use Rattle.tape.specs.declared.fields.Name.{Name}
use Rattle.tape.specs.declared.fields.Cell.{Cell}

-- the children of the node in a row, in three parts: some, those in the `removed` rows from the row `at` on, and the others
pub record Cut (row : ℕ) (kids : Forest Cell) (at removed : ℕ) (left right : Forest Cell) : Type 0 where
  pub middle : Forest Cell
  pub parts : kids ≡ left ⧺ middle ⧺ right
  pub place : at ≡ row + 1 + size left
  pub many : removed ≡ size middle

-- a tree under another name
abbrev pub renamed : Name → Cell → Forest Cell → Tree Cell
renamed name c kids = record { root = record { kind = c.kind; value = c.value; name = name; origin = c.origin }; kids = kids }
