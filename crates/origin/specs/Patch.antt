-- The run of a patch on a value with origins: operation k is the k-th of the patch.
use Rattle.std.specs.Prelude.{ℕ, ◌+◌, List, [], ◌∷◌}
use Rattle.spec.specs.Outcome.{Outcome}
use Rattle.spec.specs.Operation.{Operation}
use Rattle.spec.specs.Patch.{Run, finished, at_op, on_finish, which_pointer}
use Rattle.origin.specs.Value as Value
use Rattle.origin.specs.Value.{forget}

unfoldable pub run : (ℕ → Operation → Value.Value → Outcome Value.Value) → ℕ → List Operation → Value.Value → Run Value.Value
run step op [] v = finished v
run step op (o ∷ os) v = on_finish (at_op op (which_pointer o (forget v)) (step op o v)) λ w. run step (op + 1) os w
