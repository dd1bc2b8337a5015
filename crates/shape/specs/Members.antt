-- What a search for a member of an operation answers.
use Rattle.std.specs.Prelude.{ℕ, ◌+◌, ◌<◌, ◌≤◌, ◌≡◌, Option, Some, None, List, [], eqb, get_or, if◌then◌else◌}
use Rattle.spec.specs.Outcome.{Outcome, ok, refused}
use Rattle.spec.specs.Refusal.{wrong_shape}
use Rattle.spec.specs.Bytes.{Text, ascii}
use Rattle.spec.specs.Forest.{Forest, size}
use Rattle.spec.specs.Value as Value
use Rattle.spec.specs.Patch.{member, string_member}
use Rattle.lexer.specs.Hash.{hash}
use Rattle.text.specs.Decode.{decode}
use Rattle.tape.specs.Layout.{string_kind}
use Rattle.tape.specs.Fields.{Row, kind_of, value_of}
use Rattle.tape.specs.declared.fields.Spelling.{Spelling}
use Rattle.tape.specs.declared.fields.Name.{Name}
use Rattle.tape.specs.declared.fields.Cell.{Cell}
use Rattle.tape.specs.Rows.{end_of}
use Rattle.tape.specs.Lent.{Texts, Table}
use Rattle.table.specs.Meaning.{part_of, spelled, meant, short_hash}
use Rattle.table.specs.Sound.{NodeHeld, ForHeld}
use Rattle.table.specs.Find.{is_named, FindAsciiIs}
use Rattle.shape.specs.declared.all_members.Members.{Members}

-- what holds of the value of whatever node the table holds in a row
abbrev pub ForMeant : Table → ℕ → (Value.Value → Type 0) → Type 0
ForMeant w row Q = ForHeld w row λ c kids. Q (meant w.texts c kids)

-- the member of a name, of the object in a row: a node in the rows behind it that are the object's, or the refusal of the definition
pub data Sought (w : Table) (row : ℕ) (name : Text) (v : Value.Value) : Option ℕ → Type 0 where
  found : {at : ℕ} {e : Cell} {below : Forest Cell} → row < at → at + size below ≤ row + size v.kids → NodeHeld w at e below
      → member name v ≡ ok (meant w.texts e below)
      → Sought w row name v (Some at)
  missing : member name v ≡ refused wrong_shape 0 → Sought w row name v None

-- whatever the table holds, the first row behind this one that has the name, up to the row behind its tree; and where it holds a node in the row
pub record MemberIs (w : Table) (row : ℕ) (name : Text) (r : Option ℕ) : Type 0 where
  pub rows : FindAsciiIs w (row + 1) (end_of w.nodes row) name r
  pub held : ForMeant w row λ v. Sought w row name v r

-- the four members that an operation may have, each found by its name
pub record MembersFound (w : Table) (row : ℕ) (r : Members) : Type 0 where
  pub op : MemberIs w row (ascii "op") r.op
  pub path : MemberIs w row (ascii "path") r.path
  pub value : MemberIs w row (ascii "value") r.value
  pub from : MemberIs w row (ascii "from") r.from

-- ---- one row of the pass: what was found before, and otherwise this row if it has the name
unfoldable pub noted : Texts → Name → ℕ → Option ℕ → ℕ → Text → Option ℕ
noted texts own at (Some row) h name = Some row
noted texts own at None h name = if is_named texts own h name then Some at else None

abbrev pub noted_name : Texts → Name → ℕ → Option ℕ → Text → Option ℕ
noted_name texts own at so_far name = noted texts own at so_far (short_hash (hash name)) name

abbrev pub all_noted : Texts → Name → ℕ → Members → Members
all_noted texts own at m =
    record {
      op = noted_name texts own at m.op (ascii "op");
      path = noted_name texts own at m.path (ascii "path");
      value = noted_name texts own at m.value (ascii "value");
      from = noted_name texts own at m.from (ascii "from");
    }

-- ---- a string
-- a string by where it stands, given what stands there
unfoldable pub text_outcome : (Spelling → Text) → Option Spelling → Outcome Text
text_outcome text (Some spelling) = ok (text spelling)
text_outcome text None = refused wrong_shape 0

-- a text, both by its spelling and decoded as a string, so that it can be read as a pointer where it stands
pub record TextIs (T : Texts) (t : Outcome Text) (r : Option Spelling) : Type 0 where
  pub text : text_outcome (spelled T) r ≡ t
  pub decoded : text_outcome (λ s. decode (part_of T s)) r ≡ t

-- the text of a row, if it is a string's
unfoldable pub string_in : Row → Option Spelling
string_in node = if eqb (kind_of node) string_kind then Some (value_of node) else None

unfoldable pub string_at : List Row → Option ℕ → Option Spelling
string_at nodes (Some at) = string_in (get_or nodes at [])
string_at nodes None = None

-- whatever the table holds, the text of the member's row; and where it holds a node in the row
pub record StringIs (w : Table) (row : ℕ) (name : Text) (r : Option Spelling) : Type 0 where
  pub at : Option ℕ
  pub member : MemberIs w row name at
  pub rows : r ≡ string_at w.nodes at
  pub held : ForMeant w row λ v. TextIs w.texts (string_member name v) r
