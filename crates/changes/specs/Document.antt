-- The document in the table, and what a change at a location makes of it.
use Rattle.std.specs.Prelude.{ℕ, suc, ◌≤◌, ◌≡◌, List, [], length, Result, Ok, Err}
use Rattle.spec.specs.Outcome.{Outcome, ok, refused, ◌>>=◌}
use Rattle.spec.specs.Fault.{number_of}
use Rattle.spec.specs.declared.refusal.Fault.{Fault}
use Rattle.spec.specs.Limits.{max_depth, max_nodes}
use Rattle.spec.specs.Forest.{Forest, size}
use Rattle.spec.specs.Value as Value
use Rattle.spec.specs.Value.{depth}
use Rattle.spec.specs.Pointer.{Tokens}
use Rattle.spec.specs.Operation.{add_at, remove_at_path, replace_at_path, not_too_deep, not_too_large}
use Rattle.tape.specs.Layout.{document_row, rows}
use Rattle.tape.specs.Fields.{Row}
use Rattle.tape.specs.declared.fields.Spelling.{Spelling}
use Rattle.tape.specs.declared.fields.Cell.{Cell}
use Rattle.tape.specs.Lent.{Texts, Table}
use Rattle.table.specs.Meaning.{meant}
use Rattle.table.specs.Sound.{NodeHeld}
use Rattle.origin.specs.Value as Origin
use Rattle.origin.specs.Value.{forget}
use Rattle.origin.specs.Operation as Origins
use Rattle.walk.specs.Bearing.{borne}
use Rattle.walk.specs.Names.{Short}
use Rattle.walk.specs.Path.{PathIs}
use Rattle.changes.specs.Site.{Offered, table}
use Rattle.changes.specs.Rows.{Frame}
use Rattle.changes.specs.declared.answers.Change.{Change}
use Rattle.changes.specs.declared.answers.Change.TheVariants.{Add, Remove, Replace}

-- the document is a value: its tree is the first `used` rows of a table of the work area's length; and it is within the limits
pub record Document (w : Table) (used : ℕ) (v : Value.Value) : Type 0 where
  pub c : Cell
  pub kids : Forest Cell
  pub held : NodeHeld w document_row c kids
  pub means : meant w.texts c kids ≡ v
  pub ends : used ≡ suc (size kids)
  pub few : used ≤ max_nodes
  pub shallow : depth v ≤ max_depth
  pub long : rows ≤ length w.nodes

-- SPECIFICATION 6.8: after each operation, 5 if the result is too deep, then 6 if it has too many nodes.
abbrev pub judged : Outcome Value.Value → Outcome Value.Value
judged o = o >>= not_too_deep >>= not_too_large

-- The outcome of changing the document, given the outcome by the definitions: the document is then the result, or the answer is the refusal's number
-- and its place. `Is` says what the document is, with its origins or without them.
pub data ResultsBy {A : Type 0} (Is : ℕ → A → Type 0) (o : Outcome A) : Result ℕ Fault → Type 0 where
  results : {used : ℕ} {v : A} → o ≡ ok v → Is used v → ResultsBy Is o (Ok used)
  refusal : {e : Fault} → o ≡ refused (number_of e.refusal) e.place → ResultsBy Is o (Err e)

abbrev pub Results : Texts → List Row → Outcome Value.Value → Result ℕ Fault → Type 0
Results T nodes' o r = ResultsBy (Document (table T nodes')) o r

-- a value changed at a location, as the definitions have it
abbrev pub AtLocation : Type 0
AtLocation = Tokens → Value.Value → Outcome Value.Value

-- what a change at a location is by the definitions
pub data MakesAt (w : Table) : Change → AtLocation → Type 0 where
  adds_at : (source : ℕ) (x : Cell) (kids : Forest Cell) → Offered w source x kids → MakesAt w (Add source) (λ ts v. add_at ts (meant w.texts x kids) v)
  removes_at : MakesAt w Remove remove_at_path
  replaces_at : (source : ℕ) (x : Cell) (kids : Forest Cell) → Offered w source x kids
      → MakesAt w (Replace source) (λ ts v. replace_at_path ts (meant w.texts x kids) v)

-- ---- The same with origins: SPECIFICATION 19.1; T-11: "Every node shall carry its origin".
-- the document's nodes bear the origins of a value
pub record Bearing (w : Table) (used : ℕ) (v : Origin.Value) : Type 0 where
  pub document : Document w used (forget v)
  pub bears : borne w.texts document.c document.kids ≡ v

abbrev pub judged_bearing : Outcome Origin.Value → Outcome Origin.Value
judged_bearing o = o >>= Origins.not_too_deep >>= Origins.not_too_large

abbrev pub ResultsBearing : Texts → List Row → Outcome Origin.Value → Result ℕ Fault → Type 0
ResultsBearing T nodes' o r = ResultsBy (Bearing (table T nodes')) o r

abbrev pub AtLocationBearing : Type 0
AtLocationBearing = Tokens → Origin.Value → Outcome Origin.Value

-- a value put in bears the origins that its nodes have where it is offered
pub data MakesBearing (w : Table) : Change → AtLocationBearing → Type 0 where
  adds_bearing : (source : ℕ) (x : Cell) (kids : Forest Cell) → Offered w source x kids
      → MakesBearing w (Add source) (λ ts v. Origins.add_at ts (borne w.texts x kids) v)
  removes_bearing : MakesBearing w Remove Origins.remove_at_path
  replaces_bearing : (source : ℕ) (x : Cell) (kids : Forest Cell) → Offered w source x kids
      → MakesBearing w (Replace source) (λ ts v. Origins.replace_at_path ts (borne w.texts x kids) v)

-- ---- Each contract says what holds of every table, and what holds of one that holds a document. Of any other, the answer and the document's rows are
-- free within that frame; so they are where the path spells no pointer, or where no tree is offered in the row of a new value.
-- the tree in a row behind the document's becomes the document
pub record ReplaceDocumentIs (nodes nodes' : List Row) (used source : ℕ) (r : Result ℕ Fault) : Type 0 where
  pub frame : Frame nodes nodes' r
  pub bearing : (T : Texts) (v : Origin.Value) → Bearing (table T nodes) used v → (x : Cell) (kids : Forest Cell) → Offered (table T nodes) source x kids
      → ResultsBearing T nodes' (judged_bearing (ok (borne T x kids))) r

pub record ChangeDocumentIs (nodes nodes' : List Row) (used : ℕ) (change : Change) (r : Result ℕ Fault) : Type 0 where
  pub frame : Frame nodes nodes' r
  pub bearing : (T : Texts) (v : Origin.Value) → Bearing (table T nodes) used v → (f : AtLocationBearing) → MakesBearing (table T nodes) change f
      → ResultsBearing T nodes' (judged_bearing (f [] v)) r

-- the field `bearing` speaks of values with their origins, and `held` of the same values without them
pub record ChangeAtIs (w : Table) (nodes' : List Row) (used : ℕ) (path : Spelling) (change : Change) (r : Result ℕ Fault) : Type 0 where
  pub frame : Frame w.nodes nodes' r
  pub held : (v : Value.Value) → Document w used v → Short w.texts → (ts : Tokens) → PathIs w.texts path ts
      → (f : AtLocation) → MakesAt w change f → Results w.texts nodes' (judged (f ts v)) r
  pub bearing : (v : Origin.Value) → Bearing w used v → Short w.texts → (ts : Tokens) → PathIs w.texts path ts
      → (f : AtLocationBearing) → MakesBearing w change f → ResultsBearing w.texts nodes' (judged_bearing (f ts v)) r
