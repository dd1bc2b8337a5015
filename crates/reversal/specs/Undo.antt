-- The undo of a patch, as operations: SPECIFICATION 16.1 and 16.2, and T-09 sentence by sentence.
use Rattle.std.specs.Prelude.{ℕ, zero, suc, ◌+◌, ◌/◌, ◌%◌, List, [], ◌∷◌, ◌++◌, Bool, true, false, ◌&&◌, ltb, if◌then◌else◌}
use Prim.Native.Char.{code}
use Rattle.spec.specs.Outcome.{Outcome, ok, refused}
use Rattle.spec.specs.Bytes.{Text}
use Rattle.spec.specs.Forest.{count}
use Rattle.spec.specs.Value as Value
use Rattle.spec.specs.Value.{Label, Members, leaf, is_array, has}
use Rattle.spec.specs.Pointer.{Tokens, walk, is_dash}
use Rattle.spec.specs.Operation.{Kind, add, remove, replace, move, copy, test, Operation, remove_at_path, limited}
use Rattle.spec.specs.Patch.{proper_prefix}
use Rattle.claims.specs.Operations.{adding, removing, replacing}

-- The result of a step, or another value where it is refused. An operation that succeeded never needs the other.
unfoldable pub result_or : Value.Value → Outcome Value.Value → Value.Value
result_or other (ok v) = v
result_or other (refused number place) = other

-- what stands at a place
unfoldable pub value_at : Tokens → Value.Value → Value.Value
value_at path v = result_or (leaf Label.null_literal) (walk path v)

-- what is left when the value at a place is removed
unfoldable pub remaining : Tokens → Value.Value → Value.Value
remaining path v = result_or v (remove_at_path path v)

-- the decimal digits of a number, before others; the fuel is more than the number
unfoldable pub digits_before : ℕ → ℕ → Text → Text
digits_before zero n after = after
digits_before (suc fuel) n after =
    if ltb n 10 then (code "0" + n) ∷ after else digits_before fuel (n / 10) ((code "0" + n % 10) ∷ after)

-- a position as the token of an array's element
unfoldable pub index_token : ℕ → Text
index_token n = digits_before (suc n) n []

-- "an array's `-` as its index": that of the element which it appends
unfoldable pub element_token : Text → Members → Text
element_token t f = if is_dash t then index_token (count f) else t

-- all tokens but the last, and the last
unfoldable pub parent_tokens : Text → Tokens → Tokens
parent_tokens t [] = []
parent_tokens t (u ∷ ts) = t ∷ parent_tokens u ts

unfoldable pub last_token : Text → Tokens → Text
last_token t [] = t
last_token t (u ∷ ts) = last_token u ts

-- What takes back a value put in at the last token, by its parent as it was before: "A value newly put in is removed; a value that replaced
-- another is replaced by the old one. [..] A value inserted in an array replaces nothing."
unfoldable pub mended_in : Tokens → Text → Value.Value → Operation
mended_in parent t v =
    if is_array v.label then removing (parent ++ (element_token t v.kids ∷ [])) else
    if has t v.kids then replacing (parent ++ (t ∷ [])) (value_at (t ∷ []) v) else removing (parent ++ (t ∷ []))

-- the same for a value put in at `path`, by the document before; at the root it replaced the document
unfoldable pub mended : Tokens → Value.Value → Operation
mended [] v = replacing [] v
mended (t ∷ ts) v = mended_in (parent_tokens t ts) (last_token t ts) (value_at (parent_tokens t ts) v)

unfoldable pub is_replace : Kind → Bool
is_replace add = false
is_replace remove = false
is_replace replace = true
is_replace move = false
is_replace copy = false
is_replace test = false

-- "A move first mends `path` in that way, then adds the moved value at `from`; but where the value it replaced at `path` had held `from`,
-- only `path` is mended, with that value as it stood before the move." `mend` mends `path` by what is left after the removal.
unfoldable pub undo_moved : Operation → Tokens → Tokens → Value.Value → List Operation
undo_moved mend from path v =
    if proper_prefix path from && is_replace mend.kind then replacing path (value_at path v) ∷ []
    else mend ∷ adding from (value_at from v) ∷ []

-- "nor does a move of root to root"
unfoldable pub undo_move : Tokens → Tokens → Value.Value → List Operation
undo_move [] path v = []
undo_move (t ∷ ts) path v = undo_moved (mended path (remaining (t ∷ ts) v)) (t ∷ ts) path v

-- The undo of one operation, by the document before it: "test gives nothing [..]; a removed one is added."
unfoldable pub undo_of : Operation → Value.Value → List Operation
undo_of o v =
    elim o.kind [
      | add ↦ mended o.path v ∷ []
      | remove ↦ adding o.path (value_at o.path v) ∷ []
      | replace ↦ replacing o.path (value_at o.path v) ∷ []
      | move ↦ undo_move o.from o.path v
      | copy ↦ mended o.path v ∷ []
      | test ↦ []
    ]

-- the undo of a run from a document on: "Going from the last operation to the first"
unfoldable pub undo_run : List Operation → Value.Value → List Operation
undo_run [] v = []
undo_run (o ∷ os) v = undo_run os (result_or v (limited o v)) ++ undo_of o v
