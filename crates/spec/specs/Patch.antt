-- A patch: SPECIFICATION 4; and the run of its operations: SPECIFICATION 6.9.
use Rattle.std.specs.Prelude.{ℕ, ◌+◌, List, [], ◌∷◌, Bool, true, false, ◌&&◌, ◌||◌, not, leb, eqb, if◌then◌else◌}
use Rattle.spec.specs.Outcome.{Outcome, ok, refused, ◌>>=◌, require, is_refused}
use Rattle.spec.specs.Refusal.{wrong_shape, too_many_operations, move_into_child, location_missing, no_index}
use Rattle.spec.specs.Limits.{max_operations}
use Rattle.spec.specs.Bytes.{Text, ascii}
use Rattle.spec.specs.Forest.{none, tree, count}
use Rattle.spec.specs.Value as Value
use Rattle.spec.specs.Value.{Label, Members, leaf, value_of, is_array, is_object, is_string, content, same_text, find, has}
use Rattle.spec.specs.Pointer.{Tokens, tokens, child, walk}
use Rattle.spec.specs.Operation.{Kind, add, remove, replace, move, copy, test, Operation}

-- a member of an operation object, or 8
unfoldable pub member : Text → Value.Value → Outcome Value.Value
member name v = if has name v.kids then ok (value_of (child (find name v.kids) v)) else refused wrong_shape 0

-- a string, or 8
unfoldable pub string_of : Label → Outcome Text
string_of l = if is_string l then ok (content l) else refused wrong_shape 0

unfoldable pub string_member : Text → Value.Value → Outcome Text
string_member name v = do
  m ← member name v
  string_of m.label

-- SPECIFICATION 4.2: `op` is one of add, remove, replace, move, copy, test; otherwise 8.
unfoldable pub kind_named : Text → Outcome Kind
kind_named t =
    if same_text t (ascii "add") then ok add else
    if same_text t (ascii "remove") then ok remove else
    if same_text t (ascii "replace") then ok replace else
    if same_text t (ascii "move") then ok move else
    if same_text t (ascii "copy") then ok copy else
    if same_text t (ascii "test") then ok test else refused wrong_shape 0

-- which members a kind of operation uses beside op and path
unfoldable pub uses_value : Kind → Bool
uses_value add = true
uses_value remove = false
uses_value replace = true
uses_value move = false
uses_value copy = false
uses_value test = true

unfoldable pub uses_from : Kind → Bool
uses_from add = false
uses_from remove = false
uses_from replace = false
uses_from move = true
uses_from copy = true
uses_from test = false

unfoldable pub is_move : Kind → Bool
is_move add = false
is_move remove = false
is_move replace = false
is_move move = true
is_move copy = false
is_move test = false

-- an operation's members, its pointers as they are written; what is not used is empty, or null
pub record OperationMembers : Type 0 where
  pub kind : Kind
  pub path : Text
  pub from : Text
  pub value : Value.Value

unfoldable pub value_for : Kind → Value.Value → Outcome Value.Value
value_for kind v = if uses_value kind then member (ascii "value") v else ok (leaf Label.null_literal)

unfoldable pub from_for : Kind → Value.Value → Outcome Text
from_for kind v = if uses_from kind then string_member (ascii "from") v else ok []

-- SPECIFICATION 4.2: `path` is a string; add, replace and test have `value`; move and copy have `from`, a string; otherwise 8.
unfoldable pub members_for : Kind → Value.Value → Outcome OperationMembers
members_for kind v = do
  path ← string_member (ascii "path") v
  value ← value_for kind v
  from ← from_for kind v
  ok (record { kind = kind; path = path; from = from; value = value })

-- SPECIFICATION 4.2: an object, with `op` and the other members that it must have; otherwise 8.
unfoldable pub operation_members : Value.Value → Outcome OperationMembers
operation_members v = do
  _ ← require wrong_shape (is_object v.label)
  op ← string_member (ascii "op") v
  kind ← kind_named op
  members_for kind v

-- whether the first tokens are a proper prefix of the second
unfoldable pub proper_prefix : Tokens → Tokens → Bool
proper_prefix [] [] = false
proper_prefix [] (u ∷ us) = true
proper_prefix (t ∷ ts) [] = false
proper_prefix (t ∷ ts) (u ∷ us) = same_text t u && proper_prefix ts us

-- SPECIFICATION 4.3: `path`, then `from` where used, is a pointer; otherwise 10. SPECIFICATION 4.4: for move, the tokens of `from` are not a
-- proper prefix of the tokens of `path`; otherwise 14.
unfoldable pub with_pointers : OperationMembers → Outcome Operation
with_pointers m = do
  path ← tokens m.path
  from ← tokens m.from
  _ ← require move_into_child (not (is_move m.kind && proper_prefix from path))
  ok (record { kind = m.kind; path = path; from = from; value = m.value })

-- an element of a patch as an operation
unfoldable pub operation : Value.Value → Outcome Operation
operation v = operation_members v >>= with_pointers

-- Where a list of operations stops: the number of the refusal, the op at which it is given, its place and its pointer.
pub record Stop : Type 0 where
  pub number : ℕ
  pub op : ℕ
  pub place : ℕ
  pub pointer : ℕ

abbrev pub stop : ℕ → ℕ → ℕ → ℕ → Stop
stop number op place pointer = record { number = number; op = op; place = place; pointer = pointer }

-- What comes of a list of operations.
pub data Run (A : Type 0) : Type 0 where
  finished : A → Run A
  stopped : Stop → Run A

-- an outcome of the operation op; a refusal stops the run there, with the pointer that belongs to its number
unfoldable pub at_op : {A : Type 0} → ℕ → (ℕ → ℕ) → Outcome A → Run A
at_op op pointer (ok a) = finished a
at_op op pointer (refused number place) = stopped (stop number op place (pointer number))

-- a refusal of the shape names no pointer
unfoldable pub no_pointer : ℕ → ℕ
no_pointer number = 0

unfoldable pub on_finish : {A B : Type 0} → Run A → (A → Run B) → Run B
on_finish (finished a) next = next a
on_finish (stopped s) next = stopped s

-- the operations of the elements, the first of which is op
unfoldable pub operations : ℕ → Members → Run (List Operation)
operations op none = finished []
operations op (tree e kids rest) =
    on_finish (at_op op no_pointer (operation (record { label = e.label; kids = kids }))) λ o.
    on_finish (operations (op + 1) rest) λ os.
    finished (o ∷ os)

-- SPECIFICATION 4.1: the top value is an array (8, op 0), of at most 256 elements (9). Then each element in order.
unfoldable pub shape : Value.Value → Run (List Operation)
shape v =
    if is_array v.label then (if leb (count v.kids) max_operations then operations 1 v.kids else stopped (stop too_many_operations 0 0 0))
    else stopped (stop wrong_shape 0 0 0)

-- T-01: "with 11 and 12 it is 1 for `path` and 2 for `from`, with all other numbers 0". Where `from` is used, it is walked first.
unfoldable pub which_pointer : Operation → Value.Value → ℕ → ℕ
which_pointer o v number =
    if eqb number location_missing || eqb number no_index then (if uses_from o.kind && is_refused (walk o.from v) then 2 else 1) else 0

-- The operations one after another, each by `step` on the document that the one before left; the first of them is op, and the first that
-- fails ends the run.
unfoldable pub run : (Operation → Value.Value → Outcome Value.Value) → ℕ → List Operation → Value.Value → Run Value.Value
run step op [] v = finished v
run step op (o ∷ os) v = on_finish (at_op op (which_pointer o v) (step o v)) λ w. run step (op + 1) os w
