-- What a change of a node's children answers. Values bear their origins: SPECIFICATION 19.1, T-11.
use Rattle.std.specs.Prelude.{ℕ, suc, ◌≤◌, ◌<◌, ◌≡◌, List, ◌∷◌, length, Result, Ok, Err}
use Rattle.spec.specs.Outcome.{Outcome, ok, refused}
use Rattle.spec.specs.Fault.{number_of}
use Rattle.spec.specs.declared.refusal.Fault.{Fault}
use Rattle.spec.specs.declared.refusal.Refusal.{Refusal}
use Rattle.spec.specs.Bytes.{Text}
use Rattle.spec.specs.Forest.{Forest, single, count, remove_at, ◌⧺◌}
use Rattle.origin.specs.Value as Value
use Rattle.spec.specs.Pointer.{Tokens}
use Rattle.origin.specs.Operation.{put, at_parent, insert_element, insert_member, insert_child, remove_child, replace_child}
use Rattle.tape.specs.Layout.{array_kind, object_kind}
use Rattle.tape.specs.Fields.{Row}
use Rattle.tape.specs.declared.fields.Spelling.{Spelling}
use Rattle.tape.specs.declared.fields.Name.{Name}
use Rattle.tape.specs.declared.fields.Cell.{Cell}
use Rattle.tape.specs.Cell.{Told}
use Rattle.tape.specs.Rows.{child_row, ForNode}
use Rattle.tape.specs.Lent.{Texts, Table}
use Rattle.table.specs.Meaning.{name_text, part_of}
use Rattle.table.specs.Sound.{NameFits}
use Rattle.pointer.specs.Index.{insertion_at}
use Rattle.pointer.specs.declared.answers.Index.{Index}
use Rattle.walk.specs.Bearing.{borne}
use Rattle.walk.specs.Names.{IsToken, Short}
use Rattle.walk.specs.Path.{farther_by, TokensFrom}
use Rattle.changes.specs.Limited.{limited_to}
use Rattle.changes.specs.Site.{Standing, Site, Offered, table}
use Rattle.changes.specs.Rows.{Frame, walked_to, PutRows, TakenRows}
use Rattle.changes.specs.Cut.{Cut, renamed}
use Rattle.changes.specs.declared.parent.Parent.{Parent}
use Rattle.changes.specs.declared.answers.Change.{Change}
use Rattle.changes.specs.declared.answers.Change.TheVariants.{Add, Remove, Replace}

-- a value changed by a token, as the definitions have it
abbrev pub ByToken : Type 0
ByToken = Text → Value.Value → Outcome Value.Value

-- The outcome of changing the children of the node at a site, given the outcome by the definitions before the limits are judged. Where the change is
-- done, the node has other children in their place, and nothing around it has changed.
pub data ChangeAnswers {w : Table} {used row levels : ℕ} (z : Site w used row levels) (nodes' : List Row) (o : Outcome Value.Value) : Result ℕ Fault → Type 0 where
  done : {now : ℕ} {kids : Forest Cell} → limited_to levels z.room o ≡ ok (borne w.texts z.c kids)
      → Standing w.texts nodes' now row z.around z.c kids → ChangeAnswers z nodes' o (Ok now)
  refusal : {e : Fault} → limited_to levels z.room o ≡ refused (number_of e.refusal) e.place → ChangeAnswers z nodes' o (Err e)

-- the parent of children that change
abbrev pub SiteOf : Table → Parent → Type 0
SiteOf w p = Site w p.used p.row (suc p.below)

-- ---- Each contract says what holds of every table, and what holds of one in which the parent stands. Of any other, the answer and the document's rows
-- are free within that frame.
-- a tree put among the children of a container
pub record PutIs (nodes nodes' : List Row) (p : Parent) (at removed source : ℕ) (name : Name) (r : Result ℕ Fault) : Type 0 where
  pub rows : PutRows nodes nodes' p at removed source name r
  pub frame : Frame nodes nodes' r
  pub held : (T : Texts) (z : SiteOf (table T nodes) p) (x : Cell) (kids left right : Forest Cell) → array_kind ≤ z.c.kind
      → Offered (table T nodes) source x kids → NameFits T name → Told name.text → Cut p.row z.kids at removed left right
      → ChangeAnswers z nodes' (ok (borne T z.c (left ⧺ single (renamed name x kids) ⧺ right))) r

-- a child taken out
pub record TakeOutIs (nodes nodes' : List Row) (p : Parent) (at : ℕ) (r : Result ℕ Fault) : Type 0 where
  pub rows : TakenRows nodes nodes' p at r
  pub frame : Frame nodes nodes' r
  pub held : (T : Texts) (z : SiteOf (table T nodes) p) (k : ℕ) → k < count z.kids → at ≡ child_row p.row k z.kids
      → ChangeAnswers z nodes' (ok (borne T z.c (remove_at k z.kids))) r

-- ---- a child changed by its token
-- where a child is to stand among the children of the node in a row: the row of a position up to their number, or the refusal
pub data ChildPlaced (row : ℕ) (kids : Forest Cell) (o : Outcome ℕ) : Result ℕ Refusal → Type 0 where
  placed : (k at : ℕ) → o ≡ ok k → k ≤ count kids → at ≡ child_row row k kids → ChildPlaced row kids o (Ok at)
  unplaced : (e : Refusal) → o ≡ refused (number_of e) 0 → ChildPlaced row kids o (Err e)

-- the same of an element, by its token as an index
abbrev pub InsertionIs : List Row → ℕ → Index → Result ℕ Refusal → Type 0
InsertionIs nodes row i r = ForNode nodes row (λ c kids. ChildPlaced row kids (insertion_at (count kids) i) r)

-- the child in a row replaced, its name kept
abbrev pub Replaced : Table → List Row → Parent → ℕ → ℕ → Result ℕ Fault → Type 0
Replaced w nodes' p at source r =
    (z : SiteOf w p) (x : Cell) (kids : Forest Cell) (k : ℕ) → Offered w source x kids → k < count z.kids → at ≡ child_row p.row k z.kids
    → ChangeAnswers z nodes' (ok (put k (borne w.texts x kids) (borne w.texts z.c z.kids))) r

pub record ReplaceTreeIs (nodes nodes' : List Row) (p : Parent) (at source : ℕ) (r : Result ℕ Fault) : Type 0 where
  pub frame : Frame nodes nodes' r
  pub held : (T : Texts) → Replaced (table T nodes) nodes' p at source r

-- what a change by a token does to the value of the node, by the definitions, after the tokens that lead to it
abbrev pub Changed : Table → List Row → Parent → Name → ByToken → Result ℕ Fault → Type 0
Changed w nodes' p token f r =
    (z : SiteOf w p) → IsToken w.texts token
    → ChangeAnswers z nodes' (farther_by (walked_to p) (f (name_text w.texts token) (borne w.texts z.c z.kids))) r

module _ (w : Table) (nodes' : List Row) (p : Parent) (token : Name) (source : ℕ) (r : Result ℕ Fault) where
  pub record AddElementIs : Type 0 where
    pub frame : Frame w.nodes nodes' r
    pub held : (z : SiteOf w p) (x : Cell) (kids : Forest Cell) → z.c.kind ≡ array_kind → Offered w source x kids → IsToken w.texts token
        → ChangeAnswers z nodes'
        (farther_by (walked_to p) (insert_element (borne w.texts x kids) (name_text w.texts token) (borne w.texts z.c z.kids))) r

  pub record AddMemberIs : Type 0 where
    pub frame : Frame w.nodes nodes' r
    pub held : (z : SiteOf w p) (x : Cell) (kids : Forest Cell) → z.c.kind ≡ object_kind → Offered w source x kids → IsToken w.texts token
        → ChangeAnswers z nodes' (ok (insert_member (borne w.texts x kids) (name_text w.texts token) (borne w.texts z.c z.kids))) r

  pub record AddIs : Type 0 where
    pub frame : Frame w.nodes nodes' r
    pub held : (x : Cell) (kids : Forest Cell) → Offered w source x kids → Changed w nodes' p token (insert_child (borne w.texts x kids)) r

  pub record ReplaceIs : Type 0 where
    pub frame : Frame w.nodes nodes' r
    pub held : (x : Cell) (kids : Forest Cell) → Offered w source x kids → Changed w nodes' p token (replace_child (borne w.texts x kids)) r

pub record RemoveIs (w : Table) (nodes' : List Row) (p : Parent) (token : Name) (r : Result ℕ Fault) : Type 0 where
  pub frame : Frame w.nodes nodes' r
  pub held : Changed w nodes' p token remove_child r

-- what a change is by the definitions
pub data Makes (w : Table) : Change → ByToken → Type 0 where
  adds : (source : ℕ) (x : Cell) (kids : Forest Cell) → Offered w source x kids → Makes w (Add source) (insert_child (borne w.texts x kids))
  removes : Makes w Remove remove_child
  replaces : (source : ℕ) (x : Cell) (kids : Forest Cell) → Offered w source x kids → Makes w (Replace source) (replace_child (borne w.texts x kids))

pub record ChangeChildIs (w : Table) (nodes' : List Row) (p : Parent) (token : Name) (change : Change) (r : Result ℕ Fault) : Type 0 where
  pub frame : Frame w.nodes nodes' r
  pub held : (f : ByToken) → Makes w change f → Changed w nodes' p token f r

-- ---- a change at the parent of a location, along the tokens from a place of the pointer on, after `walked` tokens
abbrev pub Alters : {w : Table} {used row levels : ℕ} → ℕ → Site w used row levels → List Row → Spelling → ℕ → Change → Result ℕ Fault → Type 0
Alters {w} walked z nodes' path at change r =
    (f : ByToken) (t : Text) (ts : Tokens) → Makes w change f → Short w.texts → at ≤ length (part_of w.texts path)
    → TokensFrom w.texts path at (t ∷ ts) → ChangeAnswers z nodes' (farther_by walked (at_parent f t ts (borne w.texts z.c z.kids))) r

pub record AlterIs (w : Table) (nodes' : List Row) (p : Parent) (path : Spelling) (at : ℕ) (change : Change) (r : Result ℕ Fault) : Type 0 where
  pub frame : Frame w.nodes nodes' r
  pub held : (z : SiteOf w p) → Alters (walked_to p) z nodes' path at change r
