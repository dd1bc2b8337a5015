-- The place of each node among its siblings, noted in the table: SPECIFICATION 17.2; T-10: "from the first until one matches".
use Rattle.std.specs.Prelude.{◌≡◌, ℕ, ◌+◌, ◌≤◌, List, [], ◌∷◌, length, slice_index_or}
use Rattle.spec.specs.Forest.{Forest, none, tree, size}
use Rattle.tape.specs.Layout.{patch_row, scratch_row, rows}
use Rattle.tape.specs.Columns.{Scratched}
use Rattle.tape.specs.Fields.{Row, span_of}
use Rattle.tape.specs.declared.fields.Cell.{Cell}
use Rattle.tape.specs.Cell.{Node, level, deep}
use Rattle.tape.specs.Rows.{end_of}

-- Each row of the second text has a scratch row, this many rows behind it. The place is noted there.
abbrev pub apart : ℕ
apart = 2_048

-- the scratch row that bears a place, as a span
abbrev pub place_row : ℕ → Row
place_row k = 0 ∷ 0 ∷ 0 ∷ 0 ∷ k ∷ 0 ∷ 0 ∷ 0 ∷ []

abbrev pub place_at : List Row → ℕ → ℕ
place_at nodes row = span_of (slice_index_or nodes (row + apart) [])

-- the trees from a row on have the places from k on, and all below them have theirs, from 1 on
pub data HavePlaces (place : ℕ → ℕ) : ℕ → ℕ → Forest Cell → Type 0 where
  placed_none : {row k : ℕ} → HavePlaces place row k none
  placed_tree : {row k : ℕ} {c : Cell} {kids rest : Forest Cell} → place row ≡ k → HavePlaces place (row + 1) 1 kids
      → HavePlaces place (row + 1 + size kids) (k + 1) rest → HavePlaces place row k (tree c kids rest)

-- What noting the places below a row comes to. Only scratch rows change, and places up to the row stay. Where the table holds a tree of the second
-- text there that nests at most `levels` containers, all below it have their places. What else the scratch rows hold is left free.
pub record NotedIs (xs ys : List Row) (at levels : ℕ) : Type 0 where
  pub scratched : Scratched xs ys
  pub before : (r : ℕ) → r ≤ at → place_at ys r ≡ place_at xs r
  pub held : (c : Cell) (kids : Forest Cell) → Node xs at c kids → patch_row ≤ at → end_of xs at ≤ scratch_row → rows ≤ length xs
      → level c (deep kids) ≤ levels → HavePlaces (place_at ys) (at + 1) 1 kids
