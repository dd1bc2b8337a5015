-- One operation of the patch, with its undo noted.
use Rattle.std.specs.Prelude.{ℕ, ◌+◌, ◌<◌, ◌≡◌, Bool, false, ◌&&◌, Result, Ok, Err, List, ◌∷◌, ◌++◌}
use Rattle.spec.specs.Outcome.{Outcome, ok}
use Rattle.spec.specs.Bytes.{Bytes, Text}
use Rattle.spec.specs.Forest.{Forest, size}
use Rattle.spec.specs.Value as Value
use Rattle.spec.specs.Value.{is_object}
use Rattle.spec.specs.Pointer.{Tokens, walk}
use Rattle.spec.specs.Operation as Operation
use Rattle.spec.specs.Operation.{Operation, move_to, remove_at_path, limited}
use Rattle.spec.specs.Patch.{proper_prefix, is_move, which_pointer}
use Rattle.tape.specs.Fields.{Row}
use Rattle.tape.specs.declared.fields.Spelling.{Spelling}
use Rattle.tape.specs.declared.fields.Cell.{Cell}
use Rattle.tape.specs.Lent.{Texts, Table}
use Rattle.table.specs.Meaning.{meant}
use Rattle.table.specs.Sound.{NodeHeld}
use Rattle.origin.specs.Value as Origin
use Rattle.origin.specs.Value.{forget}
use Rattle.origin.specs.Pointer as Origins
use Rattle.origin.specs.Operation as OriginOperation
use Rattle.walk.specs.Bearing.{borne}
use Rattle.walk.specs.Names.{Short}
use Rattle.walk.specs.Path.{PathIs}
use Rattle.shape.specs.Kinds.{spec_kind}
use Rattle.shape.specs.declared.kinds.Kind.{Kind}
use Rattle.changes.specs.Document.{Document, judged, Bearing, judged_bearing}
use Rattle.operations.specs.Bearing.{limited_with, value_in}
use Rattle.operations.specs.Answers.{from_or_path, Performs, PerformsBearing}
use Rattle.operations.specs.declared.answers.Failure.{Failure}
use Rattle.operations.specs.Perform.{SamePatch, Listed, OperationFor, PerformIs}
use Rattle.reversal.specs.Undo.{parent_tokens, mended, is_replace, undo_of}
use Rattle.undo_log.specs.Log.{Noted}
use Rattle.undo_log.specs.declared.log.Log.{Log}
use Rattle.undo.specs.declared.logged.Logged.{Logged}

-- the document's rows that are answered with what is noted
unfoldable pub rows_of : {E : Type 0} → Result Logged E → Result ℕ E
rows_of (Ok logged) = Ok logged.rows
rows_of (Err e) = Err e

-- what an operation comes to, with the pointer that belongs to a refusal's number, and the undo that is noted where it succeeds
pub record StepsTo (T : Texts) (nodes' : List Row) (o : Outcome Value.Value) (pointer : ℕ → ℕ) (undo : List Operation) (work' : Bytes)
    (r : Result Logged Failure) : Type 0 where
  pub results : Performs T nodes' o pointer (rows_of r)
  pub noted : (v : Value.Value) → o ≡ ok v → (logged : Logged) → r ≡ Ok logged → Noted logged.log work' undo

-- What the operation in a row, op of the run, comes to with origins. What is noted bears none. From here on the field `bearing` speaks of values with
-- their origins, and `held` of the same without.
abbrev pub StepsBearing : (w : Table) → List Row → ℕ → {row : ℕ} {o : Operation} → Listed w row o → Origin.Value → Result Logged Failure → Type 0
StepsBearing w nodes' op {o = o} l v r =
    PerformsBearing w.texts nodes' (limited_with op o (value_in (borne w.texts l.c l.kids)) v) (which_pointer o (forget v)) (rows_of r)

-- ---- an operation as it is, with what is noted
pub record PlainIs (w : Table) (nodes' : List Row) (used row op : ℕ) (log : Log) (r : Result Logged Failure) : Type 0 where
  pub performs : PerformIs w nodes' used row op (rows_of r)
  pub same : (logged : Logged) → r ≡ Ok logged → logged.log ≡ log

-- ---- a move
-- whether the parent of a location is an object
abbrev pub InObjectIs : Table → Spelling → Bool → Type 0
InObjectIs w path r =
    (used : ℕ) (v : Value.Value) → Document w used v → Short w.texts → (t : Text) (ts : Tokens) → PathIs w.texts path (t ∷ ts)
    → (p : Value.Value) → walk (parent_tokens t ts) v ≡ ok p → r ≡ is_object p.label

-- whether the value that is replaced at `path` holds `from`: only `path` is mended then
abbrev pub HoldsIs : Table → Spelling → Spelling → Bool → Type 0
HoldsIs w path from r =
    (used : ℕ) (v : Value.Value) → Document w used v → Short w.texts → (ts : Tokens) → PathIs w.texts path ts
    → (g : Text) (gs : Tokens) → PathIs w.texts from (g ∷ gs) → (left : Value.Value) → remove_at_path (g ∷ gs) v ≡ ok left
    → r ≡ (proper_prefix ts (g ∷ gs) && is_replace (mended ts left).kind)

-- the value at `from`, which is in a row, and whose addition is noted, is moved in two steps; between them `path` is mended
pub record MoveApartIs (w : Table) (nodes' : List Row) (work work' : Bytes) (used : ℕ) (from path : Spelling) (row : ℕ) (log : Log) (r : Result Logged Failure) : Type 0 where
  pub patch : SamePatch w.nodes nodes'
  pub held : (v : Value.Value) → Document w used v → Short w.texts → (g : Text) (gs : Tokens) → PathIs w.texts from (g ∷ gs)
      → (ts : Tokens) → PathIs w.texts path ts → (c : Cell) (kids : Forest Cell) → NodeHeld w row c kids → row + size kids < used
      → walk (g ∷ gs) v ≡ ok (meant w.texts c kids) → (left : Value.Value) → remove_at_path (g ∷ gs) v ≡ ok left
      → (os : List Operation) → Noted log work os
      → StepsTo w.texts nodes' (judged (move_to (g ∷ gs) ts v)) (from_or_path (g ∷ gs) v) (mended ts left ∷ os) work' r
  pub bearing : (v : Origin.Value) → Bearing w used v → Short w.texts → (g : Text) (gs : Tokens) → PathIs w.texts from (g ∷ gs)
      → (ts : Tokens) → PathIs w.texts path ts → (c : Cell) (kids : Forest Cell) → NodeHeld w row c kids → row + size kids < used
      → Origins.walk (g ∷ gs) v ≡ ok (borne w.texts c kids)
      → PerformsBearing w.texts nodes' (judged_bearing (OriginOperation.move_to (g ∷ gs) ts v)) (from_or_path (g ∷ gs) (forget v)) (rows_of r)

-- the value at `from`, which is in a row, and not the root
pub record MoveFromIs (w : Table) (nodes' : List Row) (work work' : Bytes) (used row op : ℕ) (from path : Spelling) (at : ℕ) (log : Log)
    (r : Result Logged Failure) : Type 0 where
  pub patch : SamePatch w.nodes nodes'
  pub held : (v : Value.Value) → Document w used v → Short w.texts → (o : Operation) → Listed w row o → o.kind ≡ Operation.move
      → (g : Text) (gs : Tokens) → o.from ≡ g ∷ gs → PathIs w.texts from (g ∷ gs) → PathIs w.texts path o.path
      → (c : Cell) (kids : Forest Cell) → NodeHeld w at c kids → at + size kids < used → walk (g ∷ gs) v ≡ ok (meant w.texts c kids)
      → (os : List Operation) → Noted log work os → StepsTo w.texts nodes' (limited o v) (which_pointer o v) (undo_of o v ++ os) work' r
  pub bearing : (v : Origin.Value) → Bearing w used v → Short w.texts → (o : Operation) (l : Listed w row o) → o.kind ≡ Operation.move
      → (g : Text) (gs : Tokens) → o.from ≡ g ∷ gs → PathIs w.texts from (g ∷ gs) → PathIs w.texts path o.path
      → (c : Cell) (kids : Forest Cell) → NodeHeld w at c kids → at + size kids < used → Origins.walk (g ∷ gs) v ≡ ok (borne w.texts c kids)
      → StepsBearing w nodes' op l v r

-- the value at `from`, which is not the root
pub record MoveBelowIs (w : Table) (nodes' : List Row) (work work' : Bytes) (used row op : ℕ) (from path : Spelling) (log : Log)
    (r : Result Logged Failure) : Type 0 where
  pub patch : SamePatch w.nodes nodes'
  pub held : (v : Value.Value) → Document w used v → Short w.texts → (o : Operation) → Listed w row o → o.kind ≡ Operation.move
      → (g : Text) (gs : Tokens) → o.from ≡ g ∷ gs → PathIs w.texts from (g ∷ gs) → PathIs w.texts path o.path
      → (os : List Operation) → Noted log work os → StepsTo w.texts nodes' (limited o v) (which_pointer o v) (undo_of o v ++ os) work' r
  pub bearing : (v : Origin.Value) → Bearing w used v → Short w.texts → (o : Operation) (l : Listed w row o) → o.kind ≡ Operation.move
      → (g : Text) (gs : Tokens) → o.from ≡ g ∷ gs → PathIs w.texts from (g ∷ gs) → PathIs w.texts path o.path
      → StepsBearing w nodes' op l v r

-- ---- before an operation: of a kind that moves nothing, with its path
abbrev pub NoteBeforeIs : Table → Bytes → Bytes → Kind → Spelling → Log → Log → Type 0
NoteBeforeIs w work work' kind path log r =
    (used : ℕ) (v : Value.Value) → Document w used v → Short w.texts → (o : Operation) → spec_kind kind ≡ o.kind → is_move o.kind ≡ false
    → PathIs w.texts path o.path → (v' : Value.Value) → limited o v ≡ ok v'
    → (os : List Operation) → Noted log work os → Noted r work' (undo_of o v ++ os)

-- ---- an operation in a row of the patch
-- a move, with its path: it is performed as without an undo, and the patch's rows are as they were
pub record MoveStepIs (w : Table) (nodes' : List Row) (work work' : Bytes) (used row op : ℕ) (path : Spelling) (log : Log) (r : Result Logged Failure) : Type 0 where
  pub performs : OperationFor (λ k. k ≡ op) w nodes' used row path Operation.move (rows_of r)
  pub held : (v : Value.Value) → Document w used v → Short w.texts → (o : Operation) → Listed w row o → o.kind ≡ Operation.move
      → PathIs w.texts path o.path → (os : List Operation) → Noted log work os
      → StepsTo w.texts nodes' (limited o v) (which_pointer o v) (undo_of o v ++ os) work' r

-- any operation
pub record StepIs (w : Table) (nodes' : List Row) (work work' : Bytes) (used row op : ℕ) (log : Log) (r : Result Logged Failure) : Type 0 where
  pub performs : PerformIs w nodes' used row op (rows_of r)
  pub held : (v : Value.Value) → Document w used v → Short w.texts → (o : Operation) → Listed w row o → (os : List Operation) → Noted log work os
      → StepsTo w.texts nodes' (limited o v) (which_pointer o v) (undo_of o v ++ os) work' r
