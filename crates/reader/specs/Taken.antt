-- What reading a value comes to.
use Rattle.std.specs.Prelude.{ℕ, ◌+◌, ◌-◌, ◌<◌, ◌≤◌, ◌≡◌, List, Result, Ok, Err, length}
use Rattle.spec.specs.Outcome.{Outcome, ok, refused}
use Rattle.spec.specs.Fault.{number_of}
use Rattle.spec.specs.declared.refusal.Fault.{Fault}
use Rattle.spec.specs.Bytes.{Bytes, Text}
use Rattle.spec.specs.Forest.{single}
use Rattle.spec.specs.Value as Value
use Rattle.spec.specs.Value.{named}
use Rattle.spec.specs.Limits.{max_nodes}
use Rattle.spec.specs.Read.{value}
use Rattle.tape.specs.Fields.{Row}
use Rattle.tape.specs.declared.fields.Spelling.{Spelling}
use Rattle.tape.specs.declared.fields.Name.{Name}
use Rattle.tape.specs.declared.fields.Cell.{Cell}
use Rattle.reader.specs.Work.{Work}
use Rattle.reader.specs.Words.{no_spelling, Titles}
use Rattle.reader.specs.Filled.{Between, SameBeyond, Noted, Filled}
use Rattle.reader.specs.declared.containers.Source.{Source}
use Rattle.reader.specs.declared.values.Value as Declared

-- the nodes that are stored
abbrev pub scalar_cell : ℕ → Spelling → Name → Cell
scalar_cell kind value name = record { kind = kind; value = value; name = name; origin = 0 }

abbrev pub container_cell : ℕ → Name → Cell
container_cell kind name = scalar_cell kind no_spelling name

-- the text is read forward, and the rows are filled forward
pub record Ahead (s : Bytes) (at next row end limit : ℕ) : Type 0 where
  pub past : at < next
  pub inside : next ≤ length s
  pub grows : row < end
  pub room : end ≤ limit

-- What reading comes to, for a value that is to be stored from a row on, in rows below the limit, under a name whose text is given. After a value the index
-- still leads to the rows up to this one. After a refusal the rows from this one up to the limit, and the index, are left free.
pub data Taken (source : ℕ) (s : Bytes) (at : ℕ) (text : Text) (base row limit : ℕ) (w w' : Work) (o : Outcome (Value.Value × ℕ))
    : Result Declared.Value Fault → Type 0 where
  taken : (v : Value.Value) (r : Declared.Value) → o ≡ ok (v, r.next.at) → Ahead s at r.next.at row r.end limit
      → Filled source s row r.end (single (named text v)) w'.nodes → Between row r.end w.nodes w'.nodes
      → Noted base (row + 1) w.index w'.index → Taken source s at text base row limit w w' o (Ok r)
  refusal : (e : Fault) → o ≡ refused (number_of e.refusal) e.place → Between row limit w.nodes w'.nodes → SameBeyond w.index w'.index
      → Taken source s at text base row limit w w' o (Err e)

-- whatever text the name says
abbrev pub ForTitle : Source → Bytes → Name → (Text → Type 0) → Type 0
ForTitle source s name P = (text : Text) → Titles source.number s text name → P text

-- what reading a value comes to, with `levels` levels left
abbrev pub ValueTaken : Source → Bytes → ℕ → ℕ → Name → ℕ → Work → Work → Result Declared.Value Fault → Type 0
ValueTaken source s at levels name row w w' r =
    ForTitle source s name λ text.
    Taken source.number s at text source.base row (source.base + max_nodes) w w' (value levels s at (row - source.base)) r

-- the same for a scalar: it needs no level, and leaves the index alone
abbrev pub ScalarTaken : Source → Bytes → ℕ → Name → ℕ → List Row → List Row → Result Declared.Value Fault → Type 0
ScalarTaken source s at name row nodes nodes' r =
    (levels : ℕ) (xs : List ℕ) → ValueTaken source s at levels name row (record { nodes = nodes; index = xs }) (record { nodes = nodes'; index = xs }) r
