-- What becomes of a column when words of it are replaced, moved or cleared. Each is a list for any numbers at all: where they do not fit the
-- column, nothing changes.
use Rattle.std.specs.Prelude.{ℕ, ◌+◌, ◌-◌, max, ◌≡◌, List, ◌++◌, Bool, ◌&&◌, leb, length, take, drop, replicate, if◌then◌else◌}
use Rattle.tape.specs.Layout.{scratch_row, rows}
use Rattle.tape.specs.Fields.{Row, no_node}

-- how many words are in use when `removed` of them are replaced by n
abbrev pub used_after : ℕ → ℕ → ℕ → ℕ
used_after used removed n = used - removed + n

module _ {W : Type 0} where
  -- `removed` words at a row replaced by others
  unfoldable pub replaced : List W → ℕ → ℕ → List W → List W
  replaced xs at removed new = take at xs ++ new ++ drop (at + removed) xs

  -- n words from the row `start`, as they were before, over those at the row `to`
  unfoldable pub copied : List W → ℕ → ℕ → ℕ → List W
  copied xs to start n = replaced xs to n (take n (drop start xs))

  -- whether there are n words at a row
  unfoldable pub inside : List W → ℕ → ℕ → Bool
  inside xs at n = leb (at + n) (length xs)

  unfoldable pub moved : List W → ℕ → ℕ → ℕ → List W
  moved xs to start n = if inside xs to n && inside xs start n then copied xs to start n else xs

  -- whether `removed` words at a row are among the first `used`, and n words at the row `source` lie behind all that are in use before and after
  unfoldable pub splice_fits : List W → ℕ → ℕ → ℕ → ℕ → ℕ → Bool
  splice_fits xs used at removed source n =
      leb (at + removed) used && (leb (max used (used_after used removed n)) source && inside xs source n)

  -- the former replaced by the latter
  unfoldable pub spliced : List W → ℕ → ℕ → ℕ → ℕ → ℕ → List W
  spliced xs used at removed source n =
      if splice_fits xs used at removed source n then
      replaced (take used xs) at removed (take n (drop source xs)) ++ drop (used_after used removed n) xs else xs

  -- n words at a row made the same
  unfoldable pub filled : W → List W → ℕ → ℕ → List W
  filled x xs start n = if inside xs start n then replaced xs start n (replicate n x) else xs

-- n rows made rows without a node
abbrev pub wiped : List Row → ℕ → ℕ → List Row
wiped nodes start n = filled no_node nodes start n

-- only words in the scratch rows change
pub record Scratched {W : Type 0} (xs ys : List W) : Type 0 where
  pub before : take scratch_row ys ≡ take scratch_row xs
  pub behind : drop rows ys ≡ drop rows xs
  pub same_length : length ys ≡ length xs
