-- What a token is to an array.
use Rattle.std.specs.Prelude.{ℕ, suc, [], ◌∷◌, ltb, if◌then◌else◌}
use Rattle.spec.specs.Outcome.{Outcome, ok, refused}
use Rattle.spec.specs.Refusal.{location_missing, no_index}
use Rattle.spec.specs.Bytes.{Text}
use Rattle.spec.specs.Worth.{decimal}
use Rattle.spec.specs.Pointer.{is_index, is_dash, all_digits}
use Rattle.pointer.specs.declared.answers.Index.{Index}

-- An index below this limit is given by its number. No array has that many elements.
abbrev pub index_limit : ℕ
index_limit = 65_536

unfoldable pub index_at : ℕ → Index
index_at n = if ltb n index_limit then Index.At n else Index.Beyond

unfoldable pub index_of : Text → Index
index_of t =
    if is_dash t then Index.Dash else
    if is_index t then index_at (decimal 0 t) else Index.Not

-- The element of an array that is named, given how many elements it has, at most the limit: `element_below` of Pointer.
unfoldable pub element_at : ℕ → Index → Outcome ℕ
element_at elements Index.Dash = refused location_missing 0
element_at elements (Index.At n) = if ltb n elements then ok n else refused location_missing 0
element_at elements Index.Beyond = refused location_missing 0
element_at elements Index.Not = refused no_index 0

-- Where an element is added to an array, given how many elements it has, fewer than the limit.
unfoldable pub insertion_at : ℕ → Index → Outcome ℕ
insertion_at elements Index.Dash = ok elements
insertion_at elements (Index.At n) = element_at (suc elements) (Index.At n)
insertion_at elements Index.Beyond = refused location_missing 0
insertion_at elements Index.Not = refused no_index 0

-- ---- what the code reads on the way

-- digits to the end, after those that write n
unfoldable pub digits_after : ℕ → Text → Index
digits_after n t = if all_digits t then index_at (decimal n t) else Index.Not

-- a number, or the limit where the number is beyond it
unfoldable pub capped : ℕ → ℕ
capped n = if ltb n index_limit then n else index_limit

-- this answer if no character follows; otherwise it is no index
unfoldable pub if_last : Text → Index → Index
if_last [] i = i
if_last (c ∷ t) i = Index.Not
