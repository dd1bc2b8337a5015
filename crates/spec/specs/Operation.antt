-- The six operations: RFC 6902, section 4; SPECIFICATION 6.
use Rattle.std.specs.Prelude.{ℕ, suc, [], ◌∷◌, leb, if◌then◌else◌}
use Rattle.spec.specs.Outcome.{Outcome, ok, refused, ◌>>=◌}
use Rattle.spec.specs.Refusal.{location_missing, remove_of_root, test_differs, too_deep, too_many_nodes}
use Rattle.spec.specs.Limits.{max_depth, max_nodes}
use Rattle.spec.specs.Bytes.{Text}
use Rattle.spec.specs.Forest.{count, insert_at, remove_at, replace_at}
use Rattle.spec.specs.Value as Value
use Rattle.spec.specs.Value.{Members, is_array, is_object, find, has, named, value_of, depth, nodes}
use Rattle.spec.specs.Equality.{equal}
use Rattle.spec.specs.Pointer.{Tokens, child_at, child, walk, farther, element_below, is_dash}

pub data Kind : Type 0 where
  add remove replace move copy test : Kind

-- `value` is used by add, replace and test, and `from` by move and copy.
pub record Operation : Type 0 where
  pub kind : Kind
  pub path : Tokens
  pub from : Tokens
  pub value : Value.Value

abbrev pub with_kids : Value.Value → Members → Value.Value
with_kids v f = record { label = v.label; kids = f }

-- a value in the place of the k-th child; it takes over the name and the position
unfoldable pub put : ℕ → Value.Value → Value.Value → Value.Value
put k x v = with_kids v (replace_at k (named (child k v).root.name x) v.kids)

-- A change made at the parent of a location: the parent is where all tokens but the last lead, and the change is given the last one.
unfoldable pub at_parent : (Text → Value.Value → Outcome Value.Value) → Text → Tokens → Value.Value → Outcome Value.Value
at_parent change t [] v = change t v
at_parent change t (u ∷ ts) v = do
  k ← child_at t v
  w ← farther (at_parent change u ts (value_of (child k v)))
  ok (put k w v)

-- SPECIFICATION 6.2: in an array, `-` appends, an index up to the length inserts, a greater one is 11.
unfoldable pub insert_element : Value.Value → Text → Value.Value → Outcome Value.Value
insert_element x t v = do
  k ← if is_dash t then ok (count v.kids) else element_below (suc (count v.kids)) t
  ok (with_kids v (insert_at k (named [] x) v.kids))

-- SPECIFICATION 6.2: a member that exists is replaced at its position, a new one goes last.
unfoldable pub insert_member : Value.Value → Text → Value.Value → Value.Value
insert_member x t v =
    if has t v.kids then put (find t v.kids) x v else with_kids v (insert_at (count v.kids) (named t x) v.kids)

unfoldable pub insert_child : Value.Value → Text → Value.Value → Outcome Value.Value
insert_child x t v =
    if is_array v.label then insert_element x t v else
    if is_object v.label then ok (insert_member x t v) else refused location_missing 0

unfoldable pub remove_child : Text → Value.Value → Outcome Value.Value
remove_child t v = do
  k ← child_at t v
  ok (with_kids v (remove_at k v.kids))

unfoldable pub replace_child : Value.Value → Text → Value.Value → Outcome Value.Value
replace_child x t v = do
  k ← child_at t v
  ok (put k x v)

-- SPECIFICATION 6.2: "The parent must exist". At the root, "the value becomes the document".
unfoldable pub add_at : Tokens → Value.Value → Value.Value → Outcome Value.Value
add_at [] x v = ok x
add_at (t ∷ ts) x v = at_parent (insert_child x) t ts v

-- SPECIFICATION 6.3: "The target must exist"; "The root is 13."
unfoldable pub remove_at_path : Tokens → Value.Value → Outcome Value.Value
remove_at_path [] v = refused remove_of_root 0
remove_at_path (t ∷ ts) v = at_parent remove_child t ts v

-- SPECIFICATION 6.4: "The target must exist"; it "keeps its position. The root may be replaced."
unfoldable pub replace_at_path : Tokens → Value.Value → Value.Value → Outcome Value.Value
replace_at_path [] x v = ok x
replace_at_path (t ∷ ts) x v = at_parent (replace_child x) t ts v

-- SPECIFICATION 6.5: `from` must exist; it is removed, then added at `path`, which is walked in what is left. Root to root changes nothing. The
-- root is moved nowhere else: its tokens are a proper prefix of any others.
unfoldable pub move_to : Tokens → Tokens → Value.Value → Outcome Value.Value
move_to [] path v = ok v
move_to (t ∷ ts) path v = do
  x ← walk (t ∷ ts) v
  left ← remove_at_path (t ∷ ts) v
  add_at path x left

-- SPECIFICATION 6.6: "`from` must exist"; then its value is added, "in the unchanged document".
unfoldable pub copy_to : Tokens → Tokens → Value.Value → Outcome Value.Value
copy_to from path v = do
  x ← walk from v
  add_at path x v

-- SPECIFICATION 6.7: the target must exist and be equal, otherwise 15.
unfoldable pub test_at : Tokens → Value.Value → Value.Value → Outcome Value.Value
test_at path x v = do
  found ← walk path v
  if equal found x then ok v else refused test_differs 0

unfoldable pub perform : Operation → Value.Value → Outcome Value.Value
perform o v =
    elim o.kind [
      | add ↦ add_at o.path o.value v
      | remove ↦ remove_at_path o.path v
      | replace ↦ replace_at_path o.path o.value v
      | move ↦ move_to o.from o.path v
      | copy ↦ copy_to o.from o.path v
      | test ↦ test_at o.path o.value v
    ]

-- SPECIFICATION 6.8: after each operation, 5 if the result is too deep, then 6 if it has too many nodes.
unfoldable pub not_too_deep : Value.Value → Outcome Value.Value
not_too_deep v = if leb (depth v) max_depth then ok v else refused too_deep 0

unfoldable pub not_too_large : Value.Value → Outcome Value.Value
not_too_large v = if leb (nodes v) max_nodes then ok v else refused too_many_nodes 0

unfoldable pub limited : Operation → Value.Value → Outcome Value.Value
limited o v = perform o v >>= not_too_deep >>= not_too_large
