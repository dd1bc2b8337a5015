-- The origins of rows, put in a list: SPECIFICATION 19.3. T-11: "lists the origins too, one for each value in the order of their first written bytes,
-- in a lent list; its rest stays". The rows are in that order.
use Rattle.std.specs.Prelude.{ℕ, List, [], ◌∷◌}
use Rattle.tape.specs.Fields.{Row, origin_of}

-- the origin of each row in its place, as far as both go
unfoldable pub entries : List Row → List ℕ → List ℕ
entries [] xs = xs
entries (r ∷ rs) [] = []
entries (r ∷ rs) (x ∷ xs) = origin_of r ∷ entries rs xs
