-- The value that a pointer leads to, with its origins. The plain value tells which child a token names.
use Rattle.std.specs.Prelude.{ℕ, [], ◌∷◌}
use Rattle.spec.specs.Outcome.{Outcome, ok, ◌>>=◌}
use Rattle.spec.specs.Bytes.{Text}
use Rattle.spec.specs.Forest.{Tree, nth}
use Rattle.spec.specs.Value.{Label}
use Rattle.spec.specs.Pointer as Plain
use Rattle.spec.specs.Pointer.{Tokens, farther}
use Rattle.origin.specs.Value as Value
use Rattle.origin.specs.Value.{Entry, leaf, named, value_of, forget}

abbrev pub child_at : Text → Value.Value → Outcome ℕ
child_at t v = Plain.child_at t (forget v)

-- the child at a position, under its name
unfoldable pub child : ℕ → Value.Value → Tree Entry
child k v = nth (named [] (leaf 0 Label.null_literal)) k v.kids

unfoldable pub walk : Tokens → Value.Value → Outcome Value.Value
walk [] v = ok v
walk (t ∷ ts) v = do
  k ← child_at t v
  farther (walk ts (value_of (child k v)))
