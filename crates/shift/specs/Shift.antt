-- A value moved within one array: what becomes of the rows, and of the document.
use Rattle.std.specs.Prelude.{ℕ, ◌+◌, ◌-◌, ◌≤◌, ◌<◌, ◌≡◌, Bool, true, false, List, [], ◌∷◌, length, get_or, Option, Some, None, Ok}
use Rattle.spec.specs.Outcome.{ok}
use Rattle.spec.specs.Bytes.{Text}
use Rattle.spec.specs.Pointer.{Tokens}
use Rattle.origin.specs.Value as Value
use Rattle.origin.specs.Operation.{move_to}
use Rattle.text.specs.Decode.{text_of}
use Rattle.tape.specs.Layout.{scratch_row, rows}
use Rattle.tape.specs.Fields.{Row, span_of}
use Rattle.tape.specs.Columns.{moved}
use Rattle.tape.specs.Rows.{end_of}
use Rattle.tape.specs.declared.fields.Spelling.{Spelling}
use Rattle.tape.specs.declared.fields.Name.{Name}
use Rattle.tape.specs.Lent.{Texts, Table}
use Rattle.table.specs.Meaning.{part_of, name_text}
use Rattle.pointer.specs.Tokens.{TokenAt, token_bytes}
use Rattle.pointer.specs.declared.answers.Token.{Token}
use Rattle.walk.specs.Bearing.{borne}
use Rattle.walk.specs.Names.{IsToken, Short, TokenNameIs}
use Rattle.walk.specs.Path.{PathIs}
use Rattle.walk.specs.Step.{StepIs}
use Rattle.changes.specs.Site.{Site}
use Rattle.changes.specs.Rows.{SamePatch}
use Rattle.changes.specs.Change.{ChangeAnswers}
use Rattle.changes.specs.Document.{Bearing, judged_bearing, ResultsBearing}
use Rattle.shift.specs.declared.within.Pair.{Pair}

-- ---- rows that change places, by way of the scratch rows
-- `count` from `at` on with those behind them
abbrev pub exchanged_back : List Row → ℕ → ℕ → ℕ → List Row
exchanged_back nodes at count between = moved (moved (moved nodes scratch_row at count) at (at + count) between) (at + between) scratch_row count

-- and with those before them from `to` on
abbrev pub exchanged_front : List Row → ℕ → ℕ → ℕ → List Row
exchanged_front nodes at count to = moved (moved (moved nodes scratch_row at count) (to + count) to (at - to)) to scratch_row count

-- the tree in the row `at` moved to the row `to`, or behind the tree there, all within the rows in use
pub data TurnIs (nodes nodes' : List Row) (used at to : ℕ) : Bool → Type 0 where
  turned_front : (count : ℕ) → count ≡ span_of (get_or nodes at []) + 1 → to ≤ at → at + count ≤ used → nodes' ≡ exchanged_front nodes at count to
      → TurnIs nodes nodes' used at to true
  turned_back : (count between : ℕ) → count ≡ span_of (get_or nodes at []) + 1 → at < to → at + count + between ≡ end_of nodes to
      → at + count + between ≤ used → nodes' ≡ exchanged_back nodes at count between → TurnIs nodes nodes' used at to true
  not_turned : nodes' ≡ nodes → TurnIs nodes nodes' used at to false

-- ---- an element moved
-- of a node that stands in the table: the value that `ts` leads to is moved to `us`, and nothing around the node has changed
pub record Moves {w : Table} {used row levels : ℕ} (z : Site w used row levels) (nodes' : List Row) (ts us : Tokens) : Type 0 where
  pub result : Value.Value
  pub is : move_to ts us (borne w.texts z.c z.kids) ≡ ok result
  pub answers : ChangeAnswers z nodes' (ok result) (Ok used)

pub data ChildShiftIs (w : Table) (nodes' : List Row) (used : ℕ) (p : Pair) : Bool → Type 0 where
  child_shifted : SamePatch w.nodes nodes'
      → ((levels : ℕ) (z : Site w used p.parent levels) → IsToken w.texts p.token → IsToken w.texts p.other
      → (rows ≤ length nodes') × Moves z nodes' (name_text w.texts p.token ∷ []) (name_text w.texts p.other ∷ []))
      → ChildShiftIs w nodes' used p true
  child-kept : nodes' ≡ w.nodes → ChildShiftIs w nodes' used p false

-- ---- two pointers that name children of one node
-- the last token of a path, or not the last
pub data PairAt (T : Texts) (row : ℕ) (token : Name) (path : Spelling) (at : ℕ) : Token → Option Pair → Type 0 where
  pair_last : {end : ℕ} (other : Name) → TokenNameIs T path at (Token.Last end) other
      → PairAt T row token path at (Token.Last end) (Some (record { parent = row; token = token; other = other }))
  pair_apart : {t : Token} → PairAt T row token path at t None

-- along both pointers, each from a place on, beginning at the node in a row
pub data Paired (w : Table) (from path : Spelling) : ℕ → ℕ → ℕ → Option Pair → Type 0 where
  paired_last : {i j row end last : ℕ} {token other : Name}
      → TokenAt (part_of w.texts from) i (Token.Last end) → TokenNameIs w.texts from i (Token.Last end) token
      → TokenAt (part_of w.texts path) j (Token.Last last) → TokenNameIs w.texts path j (Token.Last last) other
      → Paired w from path i j row (Some (record { parent = row; token = token; other = other }))
  paired_next : {i j row end next last after child : ℕ} {token : Name} {r : Option Pair}
      → TokenAt (part_of w.texts from) i (Token.Next end next) → TokenNameIs w.texts from i (Token.Next end next) token
      → TokenAt (part_of w.texts path) j (Token.Next last after)
      → text_of 3 (token_bytes (part_of w.texts from) i (Token.Next end next)) ≡ text_of 3 (token_bytes (part_of w.texts path) j (Token.Next last after))
      → StepIs w row token (Ok child) → Paired w from path next after child r → Paired w from path i j row r
  paired_apart : {i j row : ℕ} → Paired w from path i j row None

-- ---- a value moved, if both pointers name elements of one array; otherwise nothing changes
-- The patch's rows are as they were. Where the table holds a document, it is then what the definitions' move makes of it, in as many rows.
-- Whether it is done is left free. After a move all other rows are free, and the document's too where the table held none.
pub record MovedWithin (w : Table) (nodes' : List Row) (used : ℕ) (from path : Spelling) : Type 0 where
  pub patch : SamePatch w.nodes nodes'
  pub bearing : (v : Value.Value) → Bearing w used v → Short w.texts → (g : Text) (gs : Tokens) → PathIs w.texts from (g ∷ gs)
      → (ts : Tokens) → PathIs w.texts path ts → ResultsBearing w.texts nodes' (judged_bearing (move_to (g ∷ gs) ts v)) (Ok used)

pub data ShiftIs (w : Table) (nodes' : List Row) (used : ℕ) (from path : Spelling) : Bool → Type 0 where
  shifted : MovedWithin w nodes' used from path → ShiftIs w nodes' used from path true
  kept : nodes' ≡ w.nodes → ShiftIs w nodes' used from path false
