-- What an operation of the patch makes of the document. Each contract says what holds whatever the table holds: the patch's rows are as they
-- were. And it says what holds where the table holds a document and a patch. Otherwise the answer, and what becomes of the other rows, is free.
use Rattle.std.specs.Prelude.{ℕ, ◌+◌, ◌≤◌, ◌<◌, ◌≡◌, List, [], ◌∷◌, get_or, Option, Result}
use Rattle.spec.specs.Outcome.{Outcome, ok, ◌>>=◌}
use Rattle.spec.specs.Bytes.{Text, ascii}
use Rattle.spec.specs.Forest.{Forest, size}
use Rattle.spec.specs.Value as Value
use Rattle.spec.specs.Pointer.{Tokens}
use Rattle.spec.specs.Operation as Operation
use Rattle.spec.specs.Operation.{add_at, remove_at_path, limited}
use Rattle.spec.specs.Patch.{operation, which_pointer}
use Rattle.spec.specs.Proper.{Proper}
use Rattle.spec.specs.Distinct.{Distinct}
use Rattle.tape.specs.Layout.{patch_row, scratch_row}
use Rattle.tape.specs.Fields.{Row, span_of}
use Rattle.tape.specs.Columns.{moved}
use Rattle.tape.specs.declared.fields.Spelling.{Spelling}
use Rattle.tape.specs.declared.fields.Cell.{Cell}
use Rattle.tape.specs.Lent.{Table}
use Rattle.table.specs.Meaning.{meant}
use Rattle.table.specs.Sound.{NodeHeld}
use Rattle.origin.specs.Value as Origin
use Rattle.origin.specs.Value.{forget}
use Rattle.origin.specs.Operation as Origins
use Rattle.shape.specs.Members.{MemberIs}
use Rattle.walk.specs.Bearing.{borne}
use Rattle.walk.specs.Names.{Short}
use Rattle.walk.specs.Path.{PathIs}
use Rattle.changes.specs.Site.{Offered}
use Rattle.changes.specs.Document.{Document, judged, Results, Bearing, judged_bearing, ResultsBearing}
use Rattle.spec.specs.declared.refusal.Fault.{Fault}
use Rattle.operations.specs.Bearing.{limited_with, value_in}
use Rattle.operations.specs.Answers.{from_or_path, Performs, PerformsBearing}
use Rattle.operations.specs.declared.answers.Failure.{Failure}
pub use Rattle.changes.specs.Rows.{SamePatch}

-- ---- a value on its way
-- the tree in a row copied to the scratch rows
abbrev pub SetAsideIs : List Row → List Row → ℕ → Type 0
SetAsideIs nodes nodes' row = nodes' ≡ moved nodes scratch_row row (span_of (get_or nodes row []) + 1)

-- from one location to another. From here on the field `bearing` speaks of values with their origins, and `held` of the same without.
pub record Transfers (f : Tokens → Tokens → Origin.Value → Outcome Origin.Value) (w : Table) (nodes' : List Row) (used : ℕ) (from path : Spelling)
    (r : Result ℕ Failure) : Type 0 where
  pub patch : SamePatch w.nodes nodes'
  pub bearing : (v : Origin.Value) → Bearing w used v → Short w.texts → (gs : Tokens) → PathIs w.texts from gs
      → (ts : Tokens) → PathIs w.texts path ts → PerformsBearing w.texts nodes' (judged_bearing (f gs ts v)) (from_or_path gs (forget v)) r

-- the copy bears the number of the operation that makes it
abbrev pub CopyIs : Table → List Row → ℕ → Spelling → Spelling → ℕ → Result ℕ Failure → Type 0
CopyIs w nodes' used from path op r = Transfers (Origins.copy_to op) w nodes' used from path r

abbrev pub MoveIs : Table → List Row → ℕ → Spelling → Spelling → Result ℕ Failure → Type 0
MoveIs w nodes' used from path r = Transfers Origins.move_to w nodes' used from path r

-- from another location than the root
pub record MoveBelowIs (w : Table) (nodes' : List Row) (used : ℕ) (from path : Spelling) (r : Result ℕ Failure) : Type 0 where
  pub patch : SamePatch w.nodes nodes'
  pub bearing : (v : Origin.Value) → Bearing w used v → Short w.texts → (g : Text) (gs : Tokens) → PathIs w.texts from (g ∷ gs)
      → (ts : Tokens) → PathIs w.texts path ts
      → PerformsBearing w.texts nodes' (judged_bearing (Origins.move_to (g ∷ gs) ts v)) (from_or_path (g ∷ gs) (forget v)) r

-- where the value is set aside
pub record MoveAsideIs (w : Table) (nodes' : List Row) (used : ℕ) (from path : Spelling) (r : Result ℕ Fault) : Type 0 where
  pub patch : SamePatch w.nodes nodes'
  pub held : (v : Value.Value) → Document w used v → Short w.texts → (g : Text) (gs : Tokens) → PathIs w.texts from (g ∷ gs)
      → (ts : Tokens) → PathIs w.texts path ts → (x : Cell) (kids : Forest Cell) → Offered w scratch_row x kids
      → Results w.texts nodes' (judged (remove_at_path (g ∷ gs) v >>= add_at ts (meant w.texts x kids))) r
  pub bearing : (v : Origin.Value) → Bearing w used v → Short w.texts → (g : Text) (gs : Tokens) → PathIs w.texts from (g ∷ gs)
      → (ts : Tokens) → PathIs w.texts path ts → (x : Cell) (kids : Forest Cell) → Offered w scratch_row x kids
      → ResultsBearing w.texts nodes' (judged_bearing (Origins.remove_at_path (g ∷ gs) v >>= Origins.add_at ts (borne w.texts x kids))) r

-- ---- a test with a value in which no object repeats a name
abbrev pub EqualToIs : Table → ℕ → Spelling → ℕ → Result ℕ Fault → Type 0
EqualToIs w used path value r =
    (v : Origin.Value) → Bearing w used v → Short w.texts → (ts : Tokens) → PathIs w.texts path ts
    → (x : Cell) (kids : Forest Cell) → NodeHeld w value x kids → Distinct (meant w.texts x kids)
    → ResultsBearing w.texts w.nodes (judged_bearing (Origins.test_at ts (meant w.texts x kids) v)) r

-- ---- an operation of the patch
-- the operation in a row of the patch, whose element is a proper value
pub record Listed (w : Table) (row : ℕ) (o : Operation.Operation) : Type 0 where
  pub c : Cell
  pub kids : Forest Cell
  pub held : NodeHeld w row c kids
  pub proper : Proper (meant w.texts c kids)
  pub behind : patch_row ≤ row
  pub before : row + size kids < scratch_row
  pub is : operation (meant w.texts c kids) ≡ ok o

-- what holds of an operation, number `op` of the run, given what becomes of the document by the definitions
abbrev pub ForOperation : Table → ℕ → ℕ → ℕ → (Operation.Operation → Type 0) → (Outcome Origin.Value → (ℕ → ℕ) → Type 0) → Type 0
ForOperation w used row op P Q =
    (v : Origin.Value) → Bearing w used v → Short w.texts → (o : Operation.Operation) (l : Listed w row o) → P o
    → Q (limited_with op o (value_in (borne w.texts l.c l.kids)) v) (which_pointer o (forget v))

-- of a kind, and with a path; for which numbers of the operation
pub record OperationFor (Number : ℕ → Type 0) (w : Table) (nodes' : List Row) (used row : ℕ) (path : Spelling) (k : Operation.Kind) (r : Result ℕ Failure) : Type 0
  where
    pub patch : SamePatch w.nodes nodes'
    pub bearing : (op : ℕ) → Number op
        → ForOperation w used row op (λ o. (o.kind ≡ k) × PathIs w.texts path o.path) (λ o pointer. PerformsBearing w.texts nodes' o pointer r)

-- only a copy looks at its number
abbrev pub OperationIs : Table → List Row → ℕ → ℕ → Spelling → Operation.Kind → Result ℕ Failure → Type 0
OperationIs w nodes' used row path k r = OperationFor (λ op. Unit {0}) w nodes' used row path k r

abbrev pub CopyOperationIs : Table → List Row → ℕ → ℕ → Spelling → ℕ → Result ℕ Failure → Type 0
CopyOperationIs w nodes' used row path origin r = OperationFor (λ op. op ≡ origin) w nodes' used row path Operation.copy r

-- the same, given the row of `from`
abbrev pub MoveGiven : Table → List Row → ℕ → Option ℕ → Spelling → Result ℕ Failure → Type 0
MoveGiven w nodes' used at path r = (row : ℕ) → MemberIs w row (ascii "from") at → OperationIs w nodes' used row path Operation.move r

abbrev pub CopyGiven : Table → List Row → ℕ → Option ℕ → Spelling → ℕ → Result ℕ Failure → Type 0
CopyGiven w nodes' used at path origin r = (row : ℕ) → MemberIs w row (ascii "from") at → CopyOperationIs w nodes' used row path origin r

-- an operation of any kind, with its number
pub record PerformIs (w : Table) (nodes' : List Row) (used row op : ℕ) (r : Result ℕ Failure) : Type 0 where
  pub patch : SamePatch w.nodes nodes'
  pub held : (v : Value.Value) → Document w used v → Short w.texts → (o : Operation.Operation) → Listed w row o
      → Performs w.texts nodes' (limited o v) (which_pointer o v) r
  pub bearing : ForOperation w used row op (λ o. Unit {0}) (λ o pointer. PerformsBearing w.texts nodes' o pointer r)
