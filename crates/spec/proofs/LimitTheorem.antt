-- The limit on nodes: a run with it against the bare run, of every list of operations.
use Rattle.std.specs.Prelude.{if◌then◌else◌}
use mathlib.Core.Path.{◌≡◌, refl}
use mathlib.Core.Bool.{Bool, true, false}
use mathlib.Core.List.{List, [], ◌∷◌}
use mathlib.Core.Option.{Option, none, some}
use Prim.Native.Nat.{ℕ, ◌+◌}
use lib.Dec.{leb}
use Rattle.spec.specs.Outcome.{Outcome, ok, refused, ◌>>=◌}
use Rattle.spec.specs.Refusal.{too_many_nodes}
use Rattle.spec.specs.Limits.{max_nodes}
use Rattle.spec.specs.Value as Value
use Rattle.spec.specs.Value.{nodes}
use Rattle.spec.specs.Operation.{Operation, not_too_large, limited}
use Rattle.spec.specs.Patch.{stop, Run, stopped, at_op, on_finish, which_pointer, run}
use Rattle.spec.specs.Region.{bare, first_too_large}

-- a run, stopped with 6 at an operation if one is given
unfoldable pub large_at : {A : Type 0} → Option ℕ → Run A → Run A
large_at none r = r
large_at (some op) r = stopped (stop too_many_nodes op 0 0)

-- it stops with 6 at the first operation of the bare run that leaves too many nodes, and otherwise as the bare run does
pub limited-run : (op : ℕ) (os : List Operation) (v : Value.Value) → run limited op os v ≡ large_at (first_too_large op os v) (run bare op os v)
unfolding run which_pointer limited bare at_op on_finish first_too_large large_at not_too_large ◌>>=◌
limited-run op [] v = refl
limited-run op (o ∷ os) v = go (bare o v) (limited-run (op + 1) os)
  where
    go : (r : Outcome Value.Value) → ((w : Value.Value) → run limited (op + 1) os w ≡ large_at (first_too_large (op + 1) os w) (run bare (op + 1) os w)) →
        on_finish (at_op op (which_pointer o v) (r >>= not_too_large)) (λ w. run limited (op + 1) os w)
        ≡ large_at (elim r [ ok w ↦ (if (leb (nodes w) max_nodes) then first_too_large (op + 1) os w else some op) | refused number place ↦ none ])
        (on_finish (at_op op (which_pointer o v) r) (λ w. run bare (op + 1) os w))
    go (ok w) ih = sized (leb (nodes w) max_nodes)
      where
        sized : (b : Bool) →
            on_finish (at_op op (which_pointer o v) ((if b then ok w else refused 6 0))) (λ w. run limited (op + 1) os w)
            ≡ large_at ((if b then first_too_large (op + 1) os w else some op)) (run bare (op + 1) os w)
        sized true = ih w
        sized false = refl
    go (refused n p) ih = refl
