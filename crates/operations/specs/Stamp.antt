-- Nodes that get another origin: SPECIFICATION 19.1. T-11: "k for a value put in by operation k, add, replace or copy, all nodes of it".
use Rattle.std.specs.Prelude.{ℕ, ◌+◌, ◌≡◌, List, [], ◌∷◌, ◌++◌, take, drop, get_or, set}
use Rattle.tape.specs.Layout.{scratch_row}
use Rattle.tape.specs.Fields.{Row, span_of}

-- a row with another origin, and rows
abbrev pub with_origin : Row → ℕ → Row
with_origin r k = set r 7 k

unfoldable pub stamped_rows : ℕ → List Row → List Row
stamped_rows k [] = []
stamped_rows k (r ∷ rs) = with_origin r k ∷ stamped_rows k rs

-- n rows from a row on, or as many as there are; the others are as they were
unfoldable pub stamped : List Row → ℕ → ℕ → ℕ → List Row
stamped nodes start n k = take start nodes ++ (stamped_rows k (take n (drop start nodes)) ++ drop n (drop start nodes))

-- the tree in the scratch rows
abbrev pub StampAsideIs : List Row → List Row → ℕ → Type 0
StampAsideIs nodes nodes' k = nodes' ≡ stamped nodes scratch_row (span_of (get_or nodes scratch_row []) + 1) k
