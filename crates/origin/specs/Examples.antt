-- Origins by examples: whole answers. proofs/ExamplesTheorem proves them by computation.
use Rattle.std.specs.Prelude.{◌≡◌, ℕ, List, [], ◌∷◌}
use Prim.Native.String.{String}
use Rattle.spec.specs.Bytes.{ascii}
use Rattle.spec.specs.Patch.{stop}
use Rattle.spec.specs.Answer.{Lent, success, refusal, failure}
use Rattle.spec.specs.Examples as Plain
use Rattle.reversal.specs.UndoAnswer.{UndoLent, undo_success, undo_refusal}
use Rattle.reversal.specs.Examples as PlainUndo
use Rattle.origin.specs.Answer.{Lending, listed, unlisted, answer, merge_answer, undo_answer}

-- a document and a patch with the text that is written and the origins
pub data Example : Type 0 where
  gives : String → String → String → List ℕ → Example

-- what the patch tool lends, and a list of that length
abbrev pub lent : ℕ → Lending Lent
lent list = record { call = Plain.lent; list = list }

abbrev pub AllPatches : List Example → Type 0
AllPatches [] = Unit {0}
AllPatches (gives d p text os ∷ es) = (answer (ascii d) (ascii p) (lent 2_048) ≡ listed (success (ascii text)) os) × AllPatches es

abbrev pub AllMerges : List Example → Type 0
AllMerges [] = Unit {0}
AllMerges (gives d p text os ∷ es) = (merge_answer (ascii d) (ascii p) (lent 2_048) ≡ listed (success (ascii text)) os) × AllMerges es

abbrev pub patches : List Example
patches =
    -- add: all nodes of the value; a container keeps its own; a member that is replaced keeps its position, and not its origin
    gives "{\"a\":[1]}" "[{\"op\":\"add\",\"path\":\"/a/0\",\"value\":[2,{}]}]" "{\"a\":[[2,{}],1]}" (0 ∷ 0 ∷ 1 ∷ 1 ∷ 1 ∷ 0 ∷ []) ∷
    gives "{\"a\":{}}" "[{\"op\":\"add\",\"path\":\"/a/b\",\"value\":1}]" "{\"a\":{\"b\":1}}" (0 ∷ 0 ∷ 1 ∷ []) ∷
    gives "{\"a\":1,\"b\":[2]}" "[{\"op\":\"add\",\"path\":\"/a\",\"value\":1}]" "{\"a\":1,\"b\":[2]}" (0 ∷ 1 ∷ 0 ∷ 0 ∷ []) ∷
    gives "{\"a\":1}" "[{\"op\":\"add\",\"path\":\"\",\"value\":[1]}]" "[1]" (1 ∷ 1 ∷ []) ∷
    -- replace, also by an equal value; at the root
    gives "{\"a\":1,\"b\":2}" "[{\"op\":\"test\",\"path\":\"/a\",\"value\":1},{\"op\":\"replace\",\"path\":\"/a\",\"value\":{\"c\":[]}}]"
    "{\"a\":{\"c\":[]},\"b\":2}" (0 ∷ 2 ∷ 2 ∷ 0 ∷ []) ∷
    gives "[1,2]" "[{\"op\":\"replace\",\"path\":\"/1\",\"value\":2}]" "[1,2]" (0 ∷ 0 ∷ 1 ∷ []) ∷
    gives "[1,2]" "[{\"op\":\"replace\",\"path\":\"\",\"value\":[1,2]}]" "[1,2]" (1 ∷ 1 ∷ 1 ∷ []) ∷
    -- remove and test put in nothing, nor does an empty patch; operations after one another
    gives "{\"a\":[1],\"b\":[2,3]}" "[{\"op\":\"remove\",\"path\":\"/b/0\"},{\"op\":\"test\",\"path\":\"/a\",\"value\":[1]}]"
    "{\"a\":[1],\"b\":[3]}" (0 ∷ 0 ∷ 0 ∷ 0 ∷ 0 ∷ []) ∷
    gives "[[],{\"a\":null}]" "[]" "[[],{\"a\":null}]" (0 ∷ 0 ∷ 0 ∷ 0 ∷ []) ∷
    gives "[[0]]"
    "[{\"op\":\"add\",\"path\":\"/-\",\"value\":[1]},{\"op\":\"remove\",\"path\":\"/0\"},{\"op\":\"add\",\"path\":\"/0/-\",\"value\":2}]"
    "[[1,2]]" (0 ∷ 1 ∷ 1 ∷ 3 ∷ []) ∷
    []

abbrev pub transfers : List Example
transfers =
    -- copy: its nodes are put in by the copy, whoever put in the source; over the source's own child
    gives "{\"a\":{\"b\":1}}" "[{\"op\":\"copy\",\"from\":\"/a\",\"path\":\"/c\"}]" "{\"a\":{\"b\":1},\"c\":{\"b\":1}}" (0 ∷ 0 ∷ 0 ∷ 1 ∷ 1 ∷ []) ∷
    gives "{}" "[{\"op\":\"add\",\"path\":\"/a\",\"value\":[1]},{\"op\":\"copy\",\"from\":\"/a\",\"path\":\"/b\"}]"
    "{\"a\":[1],\"b\":[1]}" (0 ∷ 1 ∷ 1 ∷ 2 ∷ 2 ∷ []) ∷
    gives "{\"a\":{\"b\":1}}" "[{\"op\":\"copy\",\"from\":\"/a\",\"path\":\"/a/b\"}]" "{\"a\":{\"b\":{\"b\":1}}}" (0 ∷ 0 ∷ 1 ∷ 1 ∷ []) ∷
    gives "{\"a\":{\"b\":1}}" "[{\"op\":\"copy\",\"from\":\"/a/b\",\"path\":\"\"}]" "1" (1 ∷ []) ∷
    -- move: a moved value keeps its own, in another container and over another value
    gives "{\"a\":[1],\"b\":{}}" "[{\"op\":\"move\",\"from\":\"/a\",\"path\":\"/b/c\"}]" "{\"b\":{\"c\":[1]}}" (0 ∷ 0 ∷ 0 ∷ 0 ∷ []) ∷
    gives "{\"b\":{}}"
    "[{\"op\":\"add\",\"path\":\"/a\",\"value\":[1]},{\"op\":\"add\",\"path\":\"/a/0\",\"value\":2},{\"op\":\"move\",\"from\":\"/a\",\"path\":\"/b\"}]"
    "{\"b\":[2,1]}" (0 ∷ 1 ∷ 2 ∷ 1 ∷ []) ∷
    gives "{\"a\":1}" "[{\"op\":\"add\",\"path\":\"/b\",\"value\":2},{\"op\":\"move\",\"from\":\"/a\",\"path\":\"/b\"}]" "{\"b\":1}" (0 ∷ 0 ∷ []) ∷
    gives "{\"a\":1}" "[{\"op\":\"move\",\"from\":\"\",\"path\":\"\"}]" "{\"a\":1}" (0 ∷ 0 ∷ []) ∷
    []

abbrev pub merges : List Example
merges =
    -- objects of the document that are merged into keep 0; what is put in bears 1, also the empty objects that the merge makes
    gives "{\"a\":{\"b\":1}}" "{\"a\":{\"c\":{\"d\":null}},\"e\":[1]}" "{\"a\":{\"b\":1,\"c\":{}},\"e\":[1]}" (0 ∷ 0 ∷ 0 ∷ 1 ∷ 1 ∷ 1 ∷ []) ∷
    gives "{\"a\":{\"b\":1},\"c\":2}" "{\"a\":{\"b\":1}}" "{\"a\":{\"b\":1},\"c\":2}" (0 ∷ 0 ∷ 1 ∷ 0 ∷ []) ∷
    gives "{\"a\":[1]}" "{\"a\":{}}" "{\"a\":{}}" (0 ∷ 1 ∷ []) ∷
    gives "[1]" "{\"a\":null}" "{}" (1 ∷ []) ∷
    gives "{\"a\":1}" "[{\"a\":null}]" "[{\"a\":null}]" (1 ∷ 1 ∷ 1 ∷ []) ∷
    gives "{\"a\":1,\"b\":2}" "{\"a\":null}" "{\"b\":2}" (0 ∷ 0 ∷ []) ∷
    []

-- A list that is just long enough, and one that is too short; a refusal; and the undo, in which a short list comes before a short undo.
abbrev pub undo_lent : ℕ → ℕ → Lending UndoLent
undo_lent undo list = record { call = PlainUndo.lending 65_536 undo 32_768; list = list }

pub record Edges : Type 0 where
  pub enough : answer (ascii "[1,2]") (ascii "[]") (lent 3) ≡ listed (success (ascii "[1,2]")) (0 ∷ 0 ∷ 0 ∷ [])
  pub short : answer (ascii "[1,2]") (ascii "[]") (lent 2) ≡ unlisted (refusal 16 0 0 0)
  pub refused : answer (ascii "[1,2]") (ascii "[{\"op\":\"add\",\"path\":\"/0\",\"value\":3},{\"op\":\"remove\",\"path\":\"/4\"}]") (lent 3) ≡
      unlisted (failure (stop 11 2 0 1))
  pub merge_short : merge_answer (ascii "[1,2]") (ascii "{}") (lent 0) ≡ unlisted (refusal 16 0 0 0)
  pub undo : undo_answer (ascii "{\"a\":1}") (ascii "[{\"op\":\"replace\",\"path\":\"/a\",\"value\":[2]}]") (undo_lent 40 3) ≡
      listed (undo_success (ascii "{\"a\":[2]}") (ascii "[{\"op\":\"replace\",\"path\":\"/a\",\"value\":1}]")) (0 ∷ 1 ∷ 1 ∷ [])
  pub undo_short : undo_answer (ascii "{\"a\":1}") (ascii "[{\"op\":\"replace\",\"path\":\"/a\",\"value\":[2]}]") (undo_lent 40 2) ≡
      unlisted (undo_refusal (refusal 16 0 0 0))
  pub undo_refused : undo_answer (ascii "{\"a\":1}") (ascii "[{\"op\":\"replace\",\"path\":\"/a\",\"value\":[2]}]") (undo_lent 39 3) ≡
      unlisted (undo_refusal (refusal 16 0 0 0))
