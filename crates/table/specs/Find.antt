-- What a search for a member by its name answers.
use Rattle.std.specs.Prelude.{ℕ, ◌+◌, ◌<◌, ◌≤◌, min, ◌≡◌, Bool, true, false, ◌&&◌, List, [], eqb, ltb, length, get_or, Option, Some, None, if◌then◌else◌}
use Rattle.spec.specs.Bytes.{Text}
use Rattle.spec.specs.Forest.{Forest, count, size, before}
use Rattle.spec.specs.Value.{same_text, find}
use Rattle.lexer.specs.Hash.{hash}
use Rattle.tape.specs.Layout.{array_kind}
use Rattle.tape.specs.Fields.{Row, kind_of, span_of, hash_of, name_of}
use Rattle.tape.specs.declared.fields.Name.{Name}
use Rattle.tape.specs.declared.fields.Cell.{Cell}
use Rattle.tape.specs.Lent.{Texts, Table}
use Rattle.tape.specs.Rows.{block}
use Rattle.table.specs.Meaning.{name_text, members, short_hash, Hashed}
use Rattle.table.specs.Sound.{RowsHeld}

-- ---- names compared: first their hashes, then their texts. A name without the hash of its text is thus the same as no other.
-- a name, and a text with its hash
unfoldable pub is_named : Texts → Name → ℕ → Text → Bool
is_named texts own h name = eqb own.hash h && same_text (name_text texts own) name

-- two names
abbrev pub same_name : Texts → Name → Name → Bool
same_name texts a b = is_named texts a b.hash (name_text texts b)

-- ---- whatever the table holds: row after row, each the one behind the tree in the row before
-- a scalar has no children, whatever its span
unfoldable pub row_behind : List Row → ℕ → ℕ
row_behind nodes row = row + 1 + (if ltb (kind_of (get_or nodes row [])) array_kind then 0 else span_of (get_or nodes row []))

-- where a search up to the row `end` stops: there, or where the table ends
abbrev pub limit_of : List Row → ℕ → ℕ
limit_of nodes end = min end (length nodes)

-- the first of these rows whose name passes a test
pub data Sought (nodes : List Row) (stop : ℕ) (test : Name → Bool) : ℕ → Option ℕ → Type 0 where
  sought_here : {row : ℕ} → row < stop → true ≡ test (name_of (get_or nodes row [])) → Sought nodes stop test row (Some row)
  sought_next : {row : ℕ} {r : Option ℕ} → row < stop → false ≡ test (name_of (get_or nodes row [])) → Sought nodes stop test (row_behind nodes row) r
      → Sought nodes stop test row r
  sought_over : {row : ℕ} → stop ≤ row → Sought nodes stop test row None

-- ---- rows looked at together
-- a row whose node has no children, and whose name has another hash than this one
pub record Quiet (nodes : List Row) (hash row : ℕ) : Type 0 where
  pub leaf : span_of (get_or nodes row []) ≡ 0
  pub other : hash_of (get_or nodes row []) ≡ hash → ⊥

-- n rows from a row on are such rows
abbrev pub AllQuiet : List Row → ℕ → ℕ → ℕ → Type 0
AllQuiet nodes hash row n = (i : ℕ) → i < n → Quiet nodes hash (row + i)

abbrev pub QuietIs : List Row → ℕ → ℕ → ℕ → Bool → Type 0
QuietIs nodes row stop hash r = r ≡ true → (row + block ≤ stop) × AllQuiet nodes hash row block

-- ---- of a forest that the table holds from a row on: the row of the first tree that has the name, or none
pub data Found (texts : Texts) (start : ℕ) (f : Forest Cell) (name : Text) : Option ℕ → Type 0 where
  found : (k row : ℕ) → find name (members texts f) ≡ k → k < count f → row ≡ start + size (before k f) → Found texts start f name (Some row)
  missing : find name (members texts f) ≡ count f → Found texts start f name None

-- the row is in the table and among those that were asked for
abbrev pub Between : ℕ → ℕ → List Row → Option ℕ → Type 0
Between start end nodes (Some row) = (start ≤ row) × (row < end) × (row < length nodes)
Between start end nodes None = Unit {0}

-- ---- what a search answers among the trees in the rows from one up to another: whatever the table holds, and where it holds a forest
pub record FindIs (w : Table) (start end : ℕ) (name : Name) (r : Option ℕ) : Type 0 where
  pub rows : Sought w.nodes (limit_of w.nodes end) (λ n. same_name w.texts n name) start r
  pub place : Between start end w.nodes r
  pub held : (f : Forest Cell) → RowsHeld w start end f → Hashed w.texts name → Found w.texts start f (name_text w.texts name) r

pub record FindAsciiIs (w : Table) (start end : ℕ) (name : Text) (r : Option ℕ) : Type 0 where
  pub rows : Sought w.nodes (limit_of w.nodes end) (λ n. is_named w.texts n (short_hash (hash name)) name) start r
  pub place : Between start end w.nodes r
  pub held : (f : Forest Cell) → RowsHeld w start end f → Found w.texts start f name r
