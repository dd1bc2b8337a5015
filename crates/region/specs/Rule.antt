-- The rule for pack makers: SPECIFICATION 15.2, T-05. It is one more test on each operation, last in its shape.
use Rattle.std.specs.Prelude.{ℕ, ◌+◌, List, [], ◌∷◌, Bool, true, false, ◌&&◌, leb, eqb, if◌then◌else◌}
use Rattle.spec.specs.Outcome.{Outcome, ok, ◌>>=◌, require}
use Rattle.spec.specs.Refusal.{wrong_shape, too_many_operations, not_permitted}
use Rattle.spec.specs.Limits.{max_operations}
use Rattle.spec.specs.Forest.{none, tree, count}
use Rattle.spec.specs.Value as Value
use Rattle.spec.specs.Value.{Members, is_array}
use Rattle.spec.specs.Pointer.{Tokens}
use Rattle.spec.specs.Operation.{Kind, add, remove, replace, move, copy, test, Operation}
use Rattle.spec.specs.Patch.{proper_prefix, operation, stop, Run, finished, stopped, at_op, no_pointer, on_finish}

-- T-05: "Makers shall send only test, replace and add"
unfoldable pub is_makers : Kind → Bool
is_makers add = true
is_makers remove = false
is_makers replace = true
is_makers move = false
is_makers copy = false
is_makers test = true

unfoldable pub is_test : Kind → Bool
is_test add = false
is_test remove = false
is_test replace = false
is_test move = false
is_test copy = false
is_test test = true

-- "the first operation shall be a test": of the operation op
unfoldable pub kind_permitted : ℕ → Kind → Bool
kind_permitted op kind = if eqb op 1 then is_test kind else is_makers kind

-- "every path shall begin with the region agreed with that maker and have at least one token more": of the operation op, in a region by its
-- tokens
unfoldable pub permitted : Tokens → ℕ → Operation → Bool
permitted region op o = kind_permitted op o.kind && proper_prefix region o.path

-- an element of a patch as a maker's operation: "17 where the rule is broken, [..] last in each element's shape order"
unfoldable pub operation_within : Tokens → ℕ → Value.Value → Outcome Operation
operation_within region op v = do
  o ← operation v
  _ ← require not_permitted (permitted region op o)
  ok o

-- the operations of the elements, the first of which is op; 17 comes "with that operation's op"
unfoldable pub operations_within : Tokens → ℕ → Members → Run (List Operation)
operations_within region op none = finished []
operations_within region op (tree e kids rest) =
    on_finish (at_op op no_pointer (operation_within region op (record { label = e.label; kids = kids }))) λ o.
    on_finish (operations_within region (op + 1) rest) λ os.
    finished (o ∷ os)

-- "A patch without operations breaks the rule with op 0."
unfoldable pub elements_within : Tokens → Members → Run (List Operation)
elements_within region none = stopped (stop not_permitted 0 0 0)
elements_within region (tree e kids rest) = operations_within region 1 (tree e kids rest)

-- the shape of a maker's patch: the top value as `shape` has it, and then the elements
unfoldable pub shape_within : Tokens → Value.Value → Run (List Operation)
shape_within region v =
    if is_array v.label then (if leb (count v.kids) max_operations then elements_within region v.kids else stopped (stop too_many_operations 0 0 0))
    else stopped (stop wrong_shape 0 0 0)
