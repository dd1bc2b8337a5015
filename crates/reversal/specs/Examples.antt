-- Undos, each with the document that the patch leaves and the one that the undo gives back: whole answers. proofs/ExamplesTheorem proves them by
-- computation.
use Rattle.std.specs.Prelude.{◌≡◌, ℕ, zero, suc, List, [], ◌∷◌}
use Prim.Native.String.{String}
use Rattle.spec.specs.Limits.{work_nodes, work_entries}
use Rattle.spec.specs.Bytes.{Text, ascii}
use Rattle.spec.specs.Forest.{none, tree}
use Rattle.spec.specs.Value as Value
use Rattle.spec.specs.Value.{Label, Members, leaf}
use Rattle.spec.specs.Patch.{stop}
use Rattle.spec.specs.Answer.{answer, success, refusal, failure}
use Rattle.reversal.specs.UndoAnswer.{UndoLent, undo_written, undo_answer, undo_success, undo_refusal}
use Rattle.reversal.specs.Statement.{Situation}

-- bytes of output for the document and for the undo, and of the buffer, with a work area that suffices
abbrev pub lending : ℕ → ℕ → ℕ → UndoLent
lending output undo work = record { patch = record { output = output; nodes = work_nodes; index = work_entries }; undo = undo; work = work }

abbrev pub lent : UndoLent
lent = lending 65_536 32_768 32_768

-- A document and a patch with the text that is written, the undo beside it, and the text that the undo gives back; or, with what is lent, a refusal: its
-- number, text, op and place, or, for the refusal of an operation, its number, op, place and pointer.
pub data Example : Type 0 where
  gives : String → String → String → String → String → Example
  refuses : UndoLent → String → String → ℕ → ℕ → ℕ → ℕ → Example
  fails : UndoLent → String → String → ℕ → ℕ → ℕ → ℕ → Example

abbrev pub Holds : Example → Type 0
Holds (gives d p text undo back) =
    (undo_answer (ascii d) (ascii p) lent ≡ undo_success (ascii text) (ascii undo)) × (answer (ascii text) (ascii undo) lent.patch ≡ success (ascii back))
Holds (refuses room d p number text op place) = undo_answer (ascii d) (ascii p) room ≡ undo_refusal (refusal number text op place)
Holds (fails room d p number op place pointer) = undo_answer (ascii d) (ascii p) room ≡ undo_refusal (failure (stop number op place pointer))

abbrev pub All : List Example → Type 0
All [] = Unit {0}
All (e ∷ es) = Holds e × All es

abbrev pub undos : List Example
undos =
    -- a new member; one that replaces another; the root; an element put in; one appended
    gives "{}" "[{\"op\":\"add\",\"path\":\"/a\",\"value\":1}]" "{\"a\":1}" "[{\"op\":\"remove\",\"path\":\"/a\"}]" "{}" ∷
    gives "{\"a\":1}" "[{\"op\":\"add\",\"path\":\"/a\",\"value\":2}]" "{\"a\":2}" "[{\"op\":\"replace\",\"path\":\"/a\",\"value\":1}]" "{\"a\":1}" ∷
    gives "[1]" "[{\"op\":\"add\",\"path\":\"\",\"value\":2}]" "2" "[{\"op\":\"replace\",\"path\":\"\",\"value\":[1]}]" "[1]" ∷
    gives "[1,3]" "[{\"op\":\"add\",\"path\":\"/1\",\"value\":2}]" "[1,2,3]" "[{\"op\":\"remove\",\"path\":\"/1\"}]" "[1,3]" ∷
    gives "{\"a\":[1,3]}" "[{\"op\":\"add\",\"path\":\"/a/-\",\"value\":2}]" "{\"a\":[1,3,2]}"
    "[{\"op\":\"remove\",\"path\":\"/a/2\"}]" "{\"a\":[1,3]}" ∷
    gives "[0,1,2,3,4,5,6,7,8,9]" "[{\"op\":\"add\",\"path\":\"/-\",\"value\":10}]" "[0,1,2,3,4,5,6,7,8,9,10]"
    "[{\"op\":\"remove\",\"path\":\"/10\"}]" "[0,1,2,3,4,5,6,7,8,9]" ∷
    -- remove, of a member, which comes back last, and of an element; replace; copy; test
    gives "{\"a/b\":1,\"c\":2}" "[{\"op\":\"remove\",\"path\":\"/a~1b\"}]" "{\"c\":2}"
    "[{\"op\":\"add\",\"path\":\"/a~1b\",\"value\":1}]" "{\"c\":2,\"a/b\":1}" ∷
    gives "[1,2]" "[{\"op\":\"remove\",\"path\":\"/0\"}]" "[2]" "[{\"op\":\"add\",\"path\":\"/0\",\"value\":1}]" "[1,2]" ∷
    gives "{\"-\":1.50}" "[{\"op\":\"replace\",\"path\":\"/-\",\"value\":2}]" "{\"-\":2}"
    "[{\"op\":\"replace\",\"path\":\"/-\",\"value\":1.50}]" "{\"-\":1.50}" ∷
    gives "{\"a\":{\"b\":1}}" "[{\"op\":\"copy\",\"from\":\"/a/b\",\"path\":\"/a\"}]" "{\"a\":1}"
    "[{\"op\":\"replace\",\"path\":\"/a\",\"value\":{\"b\":1}}]" "{\"a\":{\"b\":1}}" ∷
    gives "{\"a\":1}" "[{\"op\":\"test\",\"path\":\"/a\",\"value\":1.0}]" "{\"a\":1}" "[]" "{\"a\":1}" ∷
    -- moves: over another member; to itself; within an array; over an ancestor; into an array beside an ancestor; of root to root
    gives "{\"a\":1,\"b\":2}" "[{\"op\":\"move\",\"from\":\"/a\",\"path\":\"/b\"}]" "{\"b\":1}"
    "[{\"op\":\"replace\",\"path\":\"/b\",\"value\":2},{\"op\":\"add\",\"path\":\"/a\",\"value\":1}]" "{\"b\":2,\"a\":1}" ∷
    gives "{\"a\":1}" "[{\"op\":\"move\",\"from\":\"/a\",\"path\":\"/a\"}]" "{\"a\":1}"
    "[{\"op\":\"remove\",\"path\":\"/a\"},{\"op\":\"add\",\"path\":\"/a\",\"value\":1}]" "{\"a\":1}" ∷
    gives "[1,2,3]" "[{\"op\":\"move\",\"from\":\"/0\",\"path\":\"/-\"}]" "[2,3,1]"
    "[{\"op\":\"remove\",\"path\":\"/2\"},{\"op\":\"add\",\"path\":\"/0\",\"value\":1}]" "[1,2,3]" ∷
    gives "{\"a\":{\"b\":1,\"c\":2}}" "[{\"op\":\"move\",\"from\":\"/a/b\",\"path\":\"/a\"}]" "{\"a\":1}"
    "[{\"op\":\"replace\",\"path\":\"/a\",\"value\":{\"b\":1,\"c\":2}}]" "{\"a\":{\"b\":1,\"c\":2}}" ∷
    gives "{\"0\":[{\"1\":1}]}" "[{\"op\":\"move\",\"from\":\"/0/0/1\",\"path\":\"/0/0\"}]" "{\"0\":[1,{}]}"
    "[{\"op\":\"remove\",\"path\":\"/0/0\"},{\"op\":\"add\",\"path\":\"/0/0/1\",\"value\":1}]" "{\"0\":[{\"1\":1}]}" ∷
    gives "[1]" "[{\"op\":\"move\",\"from\":\"\",\"path\":\"\"}]" "[1]" "[]" "[1]" ∷
    -- the last operation first
    gives "{\"a\":1}" "[{\"op\":\"remove\",\"path\":\"/a\"},{\"op\":\"add\",\"path\":\"/b\",\"value\":2}]" "{\"b\":2}"
    "[{\"op\":\"remove\",\"path\":\"/b\"},{\"op\":\"add\",\"path\":\"/a\",\"value\":1}]" "{\"a\":1}" ∷
    -- an old value 30 deep, whose undo is 32 deep, and one 31 deep
    gives "[[[[[[[[[[[[[[[[[[[[[[[[[[[[[[]]]]]]]]]]]]]]]]]]]]]]]]]]]]]]" "[{\"op\":\"replace\",\"path\":\"\",\"value\":1}]" "1"
    "[{\"op\":\"replace\",\"path\":\"\",\"value\":[[[[[[[[[[[[[[[[[[[[[[[[[[[[[[]]]]]]]]]]]]]]]]]]]]]]]]]]]]]]}]"
    "[[[[[[[[[[[[[[[[[[[[[[[[[[[[[[]]]]]]]]]]]]]]]]]]]]]]]]]]]]]]" ∷
    refuses lent "[[[[[[[[[[[[[[[[[[[[[[[[[[[[[[[]]]]]]]]]]]]]]]]]]]]]]]]]]]]]]]" "[{\"op\":\"replace\",\"path\":\"\",\"value\":1}]" 5 2 0 0 ∷
    -- refusals of the patch first, with a short output for the document among them
    fails lent "{}" "[{\"op\":\"remove\",\"path\":\"/a\"}]" 11 1 0 1 ∷
    refuses (lending 0 32_768 32_768) "[[[[[[[[[[[[[[[[[[[[[[[[[[[[[[[]]]]]]]]]]]]]]]]]]]]]]]]]]]]]]]"
    "[{\"op\":\"replace\",\"path\":\"\",\"value\":1}]" 16 0 0 0 ∷
    -- a short output for the undo, and a short buffer
    refuses (lending 65_536 1 32_768) "1" "[]" 16 0 0 0 ∷
    refuses (lending 65_536 2 32_767) "1" "[]" 1 0 0 0 ∷
    []

-- the theorem's premises can be met
abbrev pub Witness : Type 0
Witness =
    Situation (ascii "{\"a\":1,\"b\":[2]}") (ascii "[{\"op\":\"move\",\"from\":\"/a\",\"path\":\"/b/-\"}]") (ascii "{\"b\":[2,1]}")
    (ascii "[{\"op\":\"remove\",\"path\":\"/b/1\"},{\"op\":\"add\",\"path\":\"/a\",\"value\":1}]") lent lent.patch

-- Values that exceed limits, for the order in which an undo is refused

-- a value n times, as an array's elements
unfoldable pub times : ℕ → Value.Value → Members
times zero v = none
times (suc n) v = tree (record { name = []; label = v.label }) v.kids (times n v)

abbrev pub list_of : ℕ → Value.Value → Value.Value
list_of n v = record { label = Label.array; kids = times n v }

-- a value inside n arrays
unfoldable pub nested : ℕ → Value.Value → Value.Value
nested zero v = v
nested (suc n) v = list_of 1 (nested n v)

-- a string of n characters
unfoldable pub letters : ℕ → Text
letters zero = []
letters (suc n) = 97 ∷ letters n

abbrev pub RefusedWith : Value.Value → ℕ → Type 0
RefusedWith u number = undo_written 0 [] u ≡ undo_refusal (refusal number 2 0 0)

-- T-09: "9, 5, 6, 2": each of these exceeds all the limits from its own on
pub record Order : Type 0 where
  pub operations : RefusedWith (list_of 257 (nested 32 (list_of 8 (leaf (Label.string (letters 128)))))) 9
  pub levels : RefusedWith (list_of 256 (nested 31 (list_of 8 (leaf (Label.string (letters 128)))))) 5
  pub values : RefusedWith (list_of 256 (list_of 8 (leaf (Label.string (letters 128))))) 6
  pub bytes : RefusedWith (list_of 255 (leaf (Label.string (letters 128)))) 2
