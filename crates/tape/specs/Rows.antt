-- What the functions on nodes answer, of whatever node the table holds in a row.
use Rattle.std.specs.Prelude.{ℕ, ◌+◌, ◌<◌, ◌≤◌, min, ◌≡◌, Bool, true, List, [], leb, ltb, length, get_or, Result, Ok, Err, if◌then◌else◌}
use Rattle.spec.specs.Forest.{Forest, count, size, before}
use Rattle.tape.specs.Fields.{Row, span_of}
use Rattle.tape.specs.declared.fields.Cell.{Cell}
use Rattle.tape.specs.declared.nodes.Reached.{Reached}
use Rattle.tape.specs.Cell.{Node, level, deep}

-- the row behind the tree that begins in a row, and in no case a row behind the table
abbrev pub end_of : List Row → ℕ → ℕ
end_of nodes at = min (at + 1 + span_of (get_or nodes at [])) (length nodes)

-- the row of the k-th child of the node in the row `at`; where there are fewer children, the row behind them
unfoldable pub child_row : {A : Type 0} → ℕ → ℕ → Forest A → ℕ
child_row at k kids = at + 1 + size (before k kids)

unfoldable pub child_of : {A : Type 0} → ℕ → ℕ → Forest A → Result ℕ ℕ
child_of at k kids = if ltb k (count kids) then Ok (child_row at k kids) else Err (count kids)

-- what holds of whatever node the table holds in a row
abbrev pub ForNode : List Row → ℕ → (Cell → Forest Cell → Type 0) → Type 0
ForNode nodes at P = (c : Cell) (kids : Forest Cell) → Node nodes at c kids → P c kids

-- ---- whatever the table holds: rows one after another, each the one behind the tree in the row before
-- n of them lead from a row to another; none of those that are passed is the row `end`, or lies behind it
pub data Steps (nodes : List Row) (end start : ℕ) : ℕ → ℕ → Type 0 where
  steps_none : Steps nodes end start 0 start
  steps_next : {n row : ℕ} → Steps nodes end start n row → row < end → Steps nodes end start (n + 1) (end_of nodes row)

-- as many of them as a node has children, and at most `most`; the row behind them is in the table, or where it ends
pub record PassIs (nodes : List Row) (at most : ℕ) (r : Reached) : Type 0 where
  pub steps : Steps nodes (end_of nodes at) (at + 1) r.count r.row
  pub few : r.count ≤ most
  pub all : r.count < most → end_of nodes at ≤ r.row
  pub behind : r.count + at < r.row
  pub inside : r.row ≤ length nodes

-- the k-th of them behind the row `at`, or how many there are
pub data ChildRows (nodes : List Row) (at k : ℕ) : Result ℕ ℕ → Type 0 where
  child_at : {row : ℕ} → Steps nodes (end_of nodes at) (at + 1) k row → row < end_of nodes at → ChildRows nodes at k (Ok row)
  child_fewer : {n last : ℕ} → Steps nodes (end_of nodes at) (at + 1) n last → end_of nodes at ≤ last → n ≤ k → ChildRows nodes at k (Err n)

pub record ArityRows (nodes : List Row) (at r : ℕ) : Type 0 where
  pub last : ℕ
  pub steps : Steps nodes (end_of nodes at) (at + 1) r last
  pub all : end_of nodes at ≤ last

-- a child's row is in the table, behind its parent's
abbrev pub Bounded : List Row → ℕ → ℕ → Result ℕ ℕ → Type 0
Bounded nodes at k (Ok row) = (at < row) × (row < length nodes)
Bounded nodes at k (Err n) = n ≤ k

-- ---- the answers of `child`, `arity` and `within`: whatever the table holds, and where it holds a node in the row
pub record ChildIs (nodes : List Row) (at k : ℕ) (r : Result ℕ ℕ) : Type 0 where
  pub rows : ChildRows nodes at k r
  pub place : Bounded nodes at k r
  pub held : ForNode nodes at (λ c kids. r ≡ child_of at k kids)

pub record ArityIs (nodes : List Row) (at r : ℕ) : Type 0 where
  pub rows : ArityRows nodes at r
  pub few : r ≤ length nodes
  pub held : ForNode nodes at (λ c kids. r ≡ count kids)

-- where the table holds no node in the row, the answer is free
abbrev pub WithinIs : List Row → ℕ → ℕ → Bool → Type 0
WithinIs nodes at levels r = ForNode nodes at (λ c kids. r ≡ leb (level c (deep kids)) levels)

-- how many rows are looked at together
abbrev pub block : ℕ
block = 16

-- n nodes in the rows from a row on have no children
abbrev pub Leaves : List Row → ℕ → ℕ → Type 0
Leaves nodes row n = (i : ℕ) → i < n → span_of (get_or nodes (row + i) []) ≡ 0

abbrev pub LeavesIs : List Row → ℕ → ℕ → ℕ → Bool → Type 0
LeavesIs nodes row end most r = r ≡ true → (row + block ≤ end) × (block ≤ most) × Leaves nodes row block
