-- What reading a whole text comes to.
use Rattle.std.specs.Prelude.{ℕ, ◌+◌, ◌≤◌, ◌≡◌, true, List, [], Result, Ok, Err, ltb, length, if◌then◌else◌}
use Rattle.spec.specs.Outcome.{Outcome, ok, refused, ◌>>=◌, is_refused}
use Rattle.spec.specs.Fault.{number_of}
use Rattle.spec.specs.declared.refusal.Fault.{Fault}
use Rattle.spec.specs.Refusal.{work_too_short, input_too_long}
use Rattle.spec.specs.Limits.{max_bytes, max_nodes}
use Rattle.spec.specs.Bytes.{Bytes}
use Rattle.spec.specs.Forest.{Forest, none, tree, size}
use Rattle.spec.specs.Value as Value
use Rattle.spec.specs.Read.{read}
use Rattle.tape.specs.Layout.{rows, document_row, patch_row}
use Rattle.tape.specs.Fields.{Row}
use Rattle.tape.specs.declared.fields.Cell.{Cell}
use Rattle.tape.specs.Cell.{Held}
use Rattle.tape.specs.Lent.{Texts, Table}
use Rattle.table.specs.Meaning.{name_text, meant}
use Rattle.table.specs.Sound.{Sound}
use Rattle.index.specs.Slots.{slots}
use Rattle.reader.specs.Work.{Work}
use Rattle.reader.specs.Words.{InText}
use Rattle.reader.specs.Filled.{Between, SameBeyond}
use Rattle.reader.specs.declared.containers.Source.{Source}
use Rattle.reader.specs.declared.values.Value as Declared

-- the refusals that come before reading: the table or the index is too short, or the text is too long
unfoldable pub refusal_before : Work → Bytes → Outcome (Unit {0})
refusal_before w s =
    if ltb (length w.nodes) rows then refused work_too_short 0 else
    if ltb (length w.index) slots then refused work_too_short 0 else
    if ltb max_bytes (length s) then refused input_too_long 0 else ok tt

-- the definition's reading, after those refusals
unfoldable pub reading : Work → Bytes → Outcome Value.Value
reading w s = refusal_before w s >>= λ _. read s

-- In the rows from `base` up to `end` stands a sound tree that means the value; its root has no name.
pub record Rooted (w : Table) (base end : ℕ) (v : Value.Value) : Type 0 where
  pub root : Cell
  pub kids : Forest Cell
  pub ends : base + 1 + size kids ≡ end
  pub held : Held w.nodes base (tree root kids none)
  pub means : meant w.texts root kids ≡ v
  pub nameless : name_text w.texts root.name ≡ []
  pub sound : Sound w.texts (tree root kids none)

-- The answer, and what became of the table: only rows from `base` up to the tree's end changed, or, after a refusal, rows of the text. Which of
-- those rows changed after a refusal, and what they hold, is left free.
pub data TextRead (T : Texts) (s : Bytes) (base : ℕ) (nodes nodes' : List Row) (o : Outcome Value.Value) : Result Declared.Value Fault → Type 0 where
  text_read : (v : Value.Value) (r : Declared.Value) → o ≡ ok v → r.next.at ≡ length s → r.end ≤ base + max_nodes
      → Rooted (record { texts = T; nodes = nodes' }) base r.end v → Between base r.end nodes nodes' → TextRead T s base nodes nodes' o (Ok r)
  text_refused : (e : Fault) → o ≡ refused (number_of e.refusal) e.place → Between base (base + max_nodes) nodes nodes'
      → TextRead T s base nodes nodes' o (Err e)

-- what reading a text comes to, where no refusal comes before, whatever the other text is
pub record ReadIs (source : Source) (s : Bytes) (w w' : Work) (r : Result Declared.Value Fault) : Type 0 where
  pub text : InText source.number s (λ T. TextRead T s source.base w.nodes w'.nodes (read s) r)
  pub beyond : SameBeyond w.index w'.index

-- The whole contract. The index is a scratch area: what it holds afterwards is left free, and what is lent beyond it does not change. After a
-- refusal that comes before reading nothing has changed at all.
pub record TextIs (T : Texts) (s : Bytes) (base : ℕ) (w w' : Work) (o : Outcome Value.Value) (r : Result Declared.Value Fault) : Type 0 where
  pub text : TextRead T s base w.nodes w'.nodes o r
  pub beyond : SameBeyond w.index w'.index
  pub unread : is_refused (refusal_before w s) ≡ true → w' ≡ w

abbrev pub DocumentIs : Texts → Work → Work → Result Declared.Value Fault → Type 0
DocumentIs T w w' r = TextIs T T.document document_row w w' (reading w T.document) r

abbrev pub PatchIs : Texts → Work → Work → Result Declared.Value Fault → Type 0
PatchIs T w w' r = TextIs T T.patch patch_row w w' (reading w T.patch) r
