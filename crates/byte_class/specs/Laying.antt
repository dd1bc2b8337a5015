-- How the two tables are laid down, entry by entry.
use Rattle.std.specs.Prelude.{ℕ, ◌/◌, ◌%◌, ◌≤◌, ◌<◌, ◌≡◌, List, [], length, get_or}

-- a byte's entry in a table of sixteen to a row
unfoldable pub entry : List (List ℕ) → ℕ → ℕ
entry rows b = get_or (get_or rows (b / 16) []) (b % 16) 0

-- 256 entries; the first n are those of the rows, one after another
pub record Filled (rows : List (List ℕ)) (n : ℕ) (table : List ℕ) : Type 0 where
  pub counted : length table ≡ 256
  pub filled : (b : ℕ) → b < n → get_or table b 0 ≡ entry rows b

-- The entries from `low` to before `high` are `v`, and nothing else changes.
pub record Laid (low high v : ℕ) (before after : List ℕ) : Type 0 where
  pub counted : length after ≡ length before
  pub under : (b : ℕ) → b < low → get_or after b 0 ≡ get_or before b 0
  pub inside : (b : ℕ) → low ≤ b → b < high → get_or after b 0 ≡ v
  pub over : (b : ℕ) → high ≤ b → get_or after b 0 ≡ get_or before b 0
