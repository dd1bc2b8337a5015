-- What a step from a value to its child answers.
use Rattle.std.specs.Prelude.{ℕ, ◌+◌, ◌<◌, ◌≡◌, Option, Some, None, Result, Ok, Err, List, [], length, get_or}
use Rattle.spec.specs.Outcome.{Outcome, ok, refused}
use Rattle.spec.specs.Forest.{Forest, count}
use Rattle.spec.specs.Pointer.{child_at, element_below, member_named}
use Rattle.tape.specs.declared.fields.Cell.{Cell}
use Rattle.tape.specs.Rows.{end_of, child_row, ForNode, ChildRows}
use Rattle.table.specs.Meaning.{part_of, name_text, members, meant}
use Rattle.table.specs.Sound.{ForHeld}
use Rattle.pointer.specs.Index.{index_of, element_at}
use Rattle.spec.specs.Fault.{number_of}
use Rattle.spec.specs.declared.refusal.Refusal.{Refusal}
use Rattle.text.specs.Decode.{text_of}
use Rattle.tape.specs.Layout as Layout
use Rattle.tape.specs.Layout.{array_kind, object_kind}
use Rattle.tape.specs.Fields.{Row, kind_of}
use Rattle.tape.specs.declared.fields.Name.{Name}
use Rattle.table.specs.Find.{Sought, limit_of, same_name}
use Rattle.pointer.specs.declared.answers.Index.{Index}
use Rattle.walk.specs.Names.{IsToken}
use Rattle.tape.specs.Lent.{Texts, Table}

-- the outcome of a step among the children of the node in a row: the row of the child at a position, or the refusal
pub data Stepped (row : ℕ) (kids : Forest Cell) (o : Outcome ℕ) : Result ℕ Refusal → Type 0 where
  stepped : (k at : ℕ) → o ≡ ok k → k < count kids → at ≡ child_row row k kids → Stepped row kids o (Ok at)
  missed : (e : Refusal) → o ≡ refused (number_of e) 0 → Stepped row kids o (Err e)

-- ---- whatever the records hold
-- a child's row is among them, behind its parent's
abbrev pub Ahead : ℕ → List Row → Result ℕ Refusal → Type 0
Ahead row nodes (Ok at) = (row < at) × (at < length nodes)
Ahead row nodes (Err e) = Unit {0}

-- the element at the index that a token says
pub data ElementRows (w : Table) (row : ℕ) : Index → Result ℕ Refusal → Type 0 where
  element_there : {k at : ℕ} → ChildRows w.nodes row k (Ok at) → ElementRows w row (Index.At k) (Ok at)
  element_past : {k n : ℕ} → ChildRows w.nodes row k (Err n) → ElementRows w row (Index.At k) (Err Refusal.LocationMissing)
  element_dash : ElementRows w row Index.Dash (Err Refusal.LocationMissing)
  element_beyond : ElementRows w row Index.Beyond (Err Refusal.LocationMissing)
  element_not : ElementRows w row Index.Not (Err Refusal.NoIndex)

-- the member that has a name
abbrev pub Search : Table → ℕ → Name → Option ℕ → Type 0
Search w row token m = Sought w.nodes (limit_of w.nodes (end_of w.nodes row)) (λ n. same_name w.texts n token) (row + 1) m

pub data MemberRows (w : Table) (row : ℕ) (token : Name) : Result ℕ Refusal → Type 0 where
  member-there : {at : ℕ} → Search w row token (Some at) → MemberRows w row token (Ok at)
  member-missing : Search w row token None → MemberRows w row token (Err Refusal.LocationMissing)

-- the index that a token says
abbrev pub index_in : Texts → Name → Index
index_in T token = index_of (text_of Layout.token (part_of T token.text))

-- the child by the kind of the node in the row
abbrev pub kind_at : Table → ℕ → ℕ
kind_at w row = kind_of (get_or w.nodes row [])

pub data StepRows (w : Table) (row : ℕ) (token : Name) (r : Result ℕ Refusal) : Type 0 where
  of_array : kind_at w row ≡ array_kind → ElementRows w row (index_in w.texts token) r → StepRows w row token r
  of-object : kind_at w row ≡ object_kind → MemberRows w row token r → StepRows w row token r
  of_other : (kind_at w row ≡ array_kind → ⊥) → (kind_at w row ≡ object_kind → ⊥) → r ≡ Err Refusal.LocationMissing → StepRows w row token r

-- ---- and of whatever node they hold in the row
-- the element at a position
pub record NthIs (w : Table) (row k : ℕ) (r : Result ℕ Refusal) : Type 0 where
  pub rows : ElementRows w row (Index.At k) r
  pub place : Ahead row w.nodes r
  pub held : ForNode w.nodes row (λ c kids. Stepped row kids (element_at (count kids) (Index.At k)) r)

pub record ElementIs (w : Table) (row : ℕ) (token : Name) (r : Result ℕ Refusal) : Type 0 where
  pub rows : ElementRows w row (index_in w.texts token) r
  pub place : Ahead row w.nodes r
  pub held : IsToken w.texts token
      → ForNode w.nodes row (λ c kids. Stepped row kids (element_below (count kids) (name_text w.texts token)) r)

pub record MemberIs (w : Table) (row : ℕ) (token : Name) (r : Result ℕ Refusal) : Type 0 where
  pub rows : MemberRows w row token r
  pub place : Ahead row w.nodes r
  pub held : IsToken w.texts token
      → ForHeld w row (λ c kids. Stepped row kids (member_named (name_text w.texts token) (members w.texts kids)) r)

pub record StepIs (w : Table) (row : ℕ) (token : Name) (r : Result ℕ Refusal) : Type 0 where
  pub rows : StepRows w row token r
  pub place : Ahead row w.nodes r
  pub held : IsToken w.texts token
      → ForHeld w row (λ c kids. Stepped row kids (child_at (name_text w.texts token) (meant w.texts c kids)) r)
