-- The limits after an operation, on a part of the document: how many containers a node's value may nest, and how many nodes it may have. Of
-- the whole document these are the two limits of `limited`. The values bear their origins.
use Rattle.std.specs.Prelude.{ℕ, leb, if◌then◌else◌}
use Rattle.spec.specs.Outcome.{Outcome, ok, refused, ◌>>=◌}
use Rattle.spec.specs.Refusal.{too_deep, too_many_nodes}
use Rattle.origin.specs.Value as Value
use Rattle.origin.specs.Value.{depth, nodes}

unfoldable pub within_levels : ℕ → Value.Value → Outcome Value.Value
within_levels levels v = if leb (depth v) levels then ok v else refused too_deep 0

unfoldable pub within_room : ℕ → Value.Value → Outcome Value.Value
within_room room v = if leb (nodes v) room then ok v else refused too_many_nodes 0

unfoldable pub limited_to : ℕ → ℕ → Outcome Value.Value → Outcome Value.Value
limited_to levels room o = o >>= within_levels levels >>= within_room room
