-- What reading a member's name comes to.
use Rattle.std.specs.Prelude.{ℕ, ◌+◌, ◌<◌, ◌≤◌, ◌≡◌, Bool, true, List, Result, Ok, Err, length}
use Prim.Native.Char.{code}
use Rattle.spec.specs.Outcome.{Outcome, ok, refused}
use Rattle.spec.specs.Fault.{number_of}
use Rattle.spec.specs.declared.refusal.Fault.{Fault}
use Rattle.spec.specs.Limits.{max_nodes}
use Rattle.spec.specs.Bytes.{Bytes, Text}
use Rattle.spec.specs.Value.{Members, has}
use Rattle.spec.specs.Read.{blanks, name_for}
use Rattle.tape.specs.Layout.{values, scratch_row}
use Rattle.tape.specs.Fields.{Row}
use Rattle.tape.specs.declared.fields.Name.{Name}
use Rattle.index.specs.Slots.{slots}
use Rattle.reader.specs.Work.{Work}
use Rattle.reader.specs.Words.{Titles, past_separator}
use Rattle.reader.specs.Filled.{Filled, Noted, Reached, Marked}
use Rattle.reader.specs.declared.containers.Container.{Container}
use Rattle.reader.specs.declared.words.Named.{Named}

-- what a reader is lent: a text whose places fit a spelling, a table with room for the nodes, and an index
pub record Lent (s : Bytes) (w : Work) : Type 0 where
  pub short : length s < values
  pub nodes_long : scratch_row ≤ length w.nodes
  pub index_long : slots ≤ length w.index

-- the place after the colon behind a name, and the blanks around it
unfoldable pub after_colon : Bytes → ℕ → Outcome ℕ
after_colon s at = past_separator s (code ":") (blanks s at)

-- the rows behind a container's own hold these items so far
abbrev pub Holding : Bytes → Container → List Row → Members → Type 0
Holding s k nodes all = Filled k.source.number s (k.row + 1) k.end all nodes

-- and the index leads to them
abbrev pub Leading : Container → List ℕ → Members → Type 0
Leading k xs all = Marked xs k.source.base k.row (k.row + 1) all

-- the index leads to the next item by its name, where there is room for it
abbrev pub LeadsNext : Container → List ℕ → Text → Type 0
LeadsNext k xs text = k.end < k.source.base + max_nodes → Reached xs k.source.base k.row k.end text

-- whether a name is repeated; its member is then in the index
pub record RepeatedIs (s : Bytes) (k : Container) (w : Work) (ys : List ℕ) (name : Name) (r : Bool) : Type 0 where
  pub is : (all : Members) (text : Text) → Holding s k w.nodes all → Leading k w.index all → Titles k.source.number s text name → r ≡ has text all
  pub reached : (text : Text) → Titles k.source.number s text name → LeadsNext k ys text
  pub noted : Noted k.source.base k.end w.index ys

-- what a reader answers for the name of the next item; the index then leads to a member
pub data NameIs (s : Bytes) (k : Container) (ys : List ℕ) (o : Outcome (Text × ℕ)) : Result Named Fault → Type 0 where
  name_read : (text : Text) (n : Named) → o ≡ ok (text, n.next.at) → Titles k.source.number s text n.name
      → (k.object ≡ true → LeadsNext k ys text) → NameIs s k ys o (Ok n)
  name_refused : (e : Fault) → o ≡ refused (number_of e.refusal) e.place → NameIs s k ys o (Err e)

-- what holds of whatever items the container has so far, its members being in the index
abbrev pub Having : Bytes → Container → Work → (Members → Type 0) → Type 0
Having s k w P = (all : Members) → Holding s k w.nodes all → (k.object ≡ true → Leading k w.index all) → P all

-- the contract of a reader of names: its answer, given the items so far, and the index afterwards
pub record NamedIs (s : Bytes) (k : Container) (w : Work) (ys : List ℕ) (o : Members → Outcome (Text × ℕ)) (r : Result Named Fault) : Type 0 where
  pub answer : Having s k w (λ all. NameIs s k ys (o all) r)
  pub noted : Noted k.source.base k.end w.index ys

-- of a member's name, and of an item's
abbrev pub MemberNameIs : Bytes → Container → Work → List ℕ → ℕ → Result Named Fault → Type 0
MemberNameIs s k w ys at r = NamedIs s k w ys (λ all. name_for true s all at) r

abbrev pub ItemNameIs : Bytes → Container → Work → List ℕ → ℕ → Result Named Fault → Type 0
ItemNameIs s k w ys at r = NamedIs s k w ys (λ all. name_for k.object s all at) r
