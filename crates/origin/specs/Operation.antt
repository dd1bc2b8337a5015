-- The six operations on values with origins: SPECIFICATION 19.1. T-11: "k for a value put in by operation k, add, replace or copy, all nodes of it; a
-- moved value keeps its own, and a container keeps its origin when a child changes". Each definition is that of the plain operation.
use Rattle.std.specs.Prelude.{ℕ, suc, [], ◌∷◌, leb, if◌then◌else◌}
use Rattle.spec.specs.Outcome.{Outcome, ok, refused, ◌>>=◌}
use Rattle.spec.specs.Refusal.{location_missing, remove_of_root, test_differs, too_deep, too_many_nodes}
use Rattle.spec.specs.Limits.{max_depth, max_nodes}
use Rattle.spec.specs.Bytes.{Text}
use Rattle.spec.specs.Forest.{count, insert_at, remove_at, replace_at}
use Rattle.spec.specs.Value as Plain
use Rattle.spec.specs.Value.{is_array, is_object}
use Rattle.spec.specs.Equality.{equal}
use Rattle.spec.specs.Pointer.{Tokens, farther, element_below, is_dash}
use Rattle.spec.specs.Operation.{add, remove, replace, move, copy, test, Operation}
use Rattle.origin.specs.Value as Value
use Rattle.origin.specs.Value.{Members, find, has, named, value_of, forget, painted, depth, nodes}
use Rattle.origin.specs.Pointer.{child_at, child, walk}

-- "a container keeps its origin when a child changes"
abbrev pub with_kids : Value.Value → Members → Value.Value
with_kids v f = record { label = v.label; origin = v.origin; kids = f }

-- a value in the place of the k-th child; it takes over the name and the position, and keeps its own origin
unfoldable pub put : ℕ → Value.Value → Value.Value → Value.Value
put k x v = with_kids v (replace_at k (named (child k v).root.name x) v.kids)

unfoldable pub at_parent : (Text → Value.Value → Outcome Value.Value) → Text → Tokens → Value.Value → Outcome Value.Value
at_parent change t [] v = change t v
at_parent change t (u ∷ ts) v = do
  k ← child_at t v
  w ← farther (at_parent change u ts (value_of (child k v)))
  ok (put k w v)

unfoldable pub insert_element : Value.Value → Text → Value.Value → Outcome Value.Value
insert_element x t v = do
  k ← if is_dash t then ok (count v.kids) else element_below (suc (count v.kids)) t
  ok (with_kids v (insert_at k (named [] x) v.kids))

unfoldable pub insert_member : Value.Value → Text → Value.Value → Value.Value
insert_member x t v =
    if has t v.kids then put (find t v.kids) x v else with_kids v (insert_at (count v.kids) (named t x) v.kids)

unfoldable pub insert_child : Value.Value → Text → Value.Value → Outcome Value.Value
insert_child x t v =
    if is_array v.label then insert_element x t v else
    if is_object v.label then ok (insert_member x t v) else refused location_missing 0

unfoldable pub remove_child : Text → Value.Value → Outcome Value.Value
remove_child t v = do
  k ← child_at t v
  ok (with_kids v (remove_at k v.kids))

unfoldable pub replace_child : Value.Value → Text → Value.Value → Outcome Value.Value
replace_child x t v = do
  k ← child_at t v
  ok (put k x v)

unfoldable pub add_at : Tokens → Value.Value → Value.Value → Outcome Value.Value
add_at [] x v = ok x
add_at (t ∷ ts) x v = at_parent (insert_child x) t ts v

unfoldable pub remove_at_path : Tokens → Value.Value → Outcome Value.Value
remove_at_path [] v = refused remove_of_root 0
remove_at_path (t ∷ ts) v = at_parent remove_child t ts v

unfoldable pub replace_at_path : Tokens → Value.Value → Value.Value → Outcome Value.Value
replace_at_path [] x v = ok x
replace_at_path (t ∷ ts) x v = at_parent (replace_child x) t ts v

-- "a moved value keeps its own"
unfoldable pub move_to : Tokens → Tokens → Value.Value → Outcome Value.Value
move_to [] path v = ok v
move_to (t ∷ ts) path v = do
  x ← walk (t ∷ ts) v
  left ← remove_at_path (t ∷ ts) v
  add_at path x left

-- operation k puts in what `from` leads to: "k for a value put in by operation k, [..] copy, all nodes of it"
unfoldable pub copy_to : ℕ → Tokens → Tokens → Value.Value → Outcome Value.Value
copy_to k from path v = do
  x ← walk from v
  add_at path (painted k (forget x)) v

unfoldable pub test_at : Tokens → Plain.Value → Value.Value → Outcome Value.Value
test_at path x v = do
  found ← walk path v
  if equal (forget found) x then ok v else refused test_differs 0

-- operation k
unfoldable pub perform : ℕ → Operation → Value.Value → Outcome Value.Value
perform k o v =
    elim o.kind [
      | add ↦ add_at o.path (painted k o.value) v
      | remove ↦ remove_at_path o.path v
      | replace ↦ replace_at_path o.path (painted k o.value) v
      | move ↦ move_to o.from o.path v
      | copy ↦ copy_to k o.from o.path v
      | test ↦ test_at o.path o.value v
    ]

unfoldable pub not_too_deep : Value.Value → Outcome Value.Value
not_too_deep v = if leb (depth v) max_depth then ok v else refused too_deep 0

unfoldable pub not_too_large : Value.Value → Outcome Value.Value
not_too_large v = if leb (nodes v) max_nodes then ok v else refused too_many_nodes 0

unfoldable pub limited : ℕ → Operation → Value.Value → Outcome Value.Value
limited k o v = perform k o v >>= not_too_deep >>= not_too_large
