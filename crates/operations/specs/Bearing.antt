-- An operation of the patch and the run of them on values that bear origins. The value of an operation bears what its rows in the patch do. Where
-- these bear the operation's number, this is crate origin's `perform` and `run`.
use Rattle.std.specs.Prelude.{ℕ, ◌+◌, ◌≡◌, true, List, [], ◌∷◌}
use Rattle.spec.specs.Outcome.{Outcome, ◌>>=◌}
use Rattle.spec.specs.Bytes.{ascii}
use Rattle.spec.specs.Forest.{none, tree}
use Rattle.spec.specs.Operation.{add, remove, replace, move, copy, test, Operation}
use Rattle.spec.specs.Patch.{Run, finished, at_op, on_finish, uses_value, which_pointer}
use Rattle.origin.specs.Value as Value
use Rattle.origin.specs.Value.{Members, find, value_of, forget, painted}
use Rattle.origin.specs.Pointer.{child}
use Rattle.origin.specs.Operation.{add_at, remove_at_path, replace_at_path, move_to, copy_to, test_at, not_too_deep, not_too_large}

-- operation k, with the value x in the place of its own
unfoldable pub perform_with : ℕ → Operation → Value.Value → Value.Value → Outcome Value.Value
perform_with k o x v =
    elim o.kind [
      | add ↦ add_at o.path x v
      | remove ↦ remove_at_path o.path v
      | replace ↦ replace_at_path o.path x v
      | move ↦ move_to o.from o.path v
      | copy ↦ copy_to k o.from o.path v
      | test ↦ test_at o.path o.value v
    ]

unfoldable pub limited_with : ℕ → Operation → Value.Value → Value.Value → Outcome Value.Value
limited_with k o x v = perform_with k o x v >>= not_too_deep >>= not_too_large

-- the member `value` of an element of the patch
unfoldable pub value_in : Value.Value → Value.Value
value_in v = value_of (child (find (ascii "value") v.kids) v)

-- an operation with its value
pub record Valued : Type 0 where
  pub operation : Operation
  pub value : Value.Value

-- the operations of the elements, with their values
unfoldable pub valued : Members → List Operation → List Valued
valued none os = []
valued (tree e kids rest) [] = []
valued (tree e kids rest) (o ∷ os) =
    record { operation = o; value = value_in (record { label = e.label; origin = e.origin; kids = kids }) } ∷ valued rest os

-- every value that is used bears the number of its operation, the first of which is k
pub data Numbered : ℕ → List Valued → List Operation → Type 0 where
  numbered_none : {k : ℕ} → Numbered k [] []
  numbered_next : {k : ℕ} {o : Operation} {x : Value.Value} {xs : List Valued} {os : List Operation}
      → (uses_value o.kind ≡ true → x ≡ painted k o.value) → Numbered (k + 1) xs os
      → Numbered k (record { operation = o; value = x } ∷ xs) (o ∷ os)

-- the run, whose first operation is op
unfoldable pub run_with : ℕ → List Valued → Value.Value → Run Value.Value
run_with op [] v = finished v
run_with op (o ∷ os) v =
    on_finish (at_op op (which_pointer o.operation (forget v)) (limited_with op o.operation o.value v)) λ w. run_with (op + 1) os w
