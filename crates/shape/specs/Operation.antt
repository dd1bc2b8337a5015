-- What the code answers for one operation, by the definitions of Patch.
use Rattle.std.specs.Prelude.{ℕ, ◌≡◌, Bool, false, Option, Some, Result, Ok, Err, [], get_or}
use Rattle.spec.specs.Outcome.{Outcome, ok, refused, ◌>>=◌, require}
use Rattle.spec.specs.Refusal.{wrong_shape}
use Rattle.spec.specs.Fault.{number_of}
use Rattle.spec.specs.declared.refusal.Refusal.{Refusal}
use Rattle.spec.specs.Bytes.{ascii}
use Rattle.spec.specs.Value as Value
use Rattle.spec.specs.Value.{is_object}
use Rattle.spec.specs.Operation as Operation
use Rattle.spec.specs.Patch.{string_member, kind_named, uses_value, uses_from, is_move, value_for, members_for, with_pointers, operation}
use Rattle.text.specs.Decode.{decode}
use Rattle.tape.specs.Layout.{object_kind}
use Rattle.tape.specs.Fields as Fields
use Rattle.tape.specs.declared.fields.Spelling.{Spelling}
use Rattle.tape.specs.Lent.{Texts, Table}
use Rattle.table.specs.Meaning.{part_of, spelled}
use Rattle.shape.specs.Kinds.{spec_kind, kind_outcome}
use Rattle.shape.specs.Members.{ForMeant, MemberIs, MembersFound, text_outcome, StringIs}
use Rattle.shape.specs.declared.all_members.Members.{Members}
use Rattle.shape.specs.declared.kinds.Kind.{Kind}

-- whether there is a result, or the refusal
abbrev pub Verdict : Type 0
Verdict = Result (Unit {0}) Refusal

-- an answer that stands for an outcome, whatever its result is
pub data Answers {A : Type 0} : Outcome A → Verdict → Type 0 where
  right : (a : A) → Answers (ok a) (Ok tt)
  wrong : (e : Refusal) → Answers (refused (number_of e) 0) (Err e)

-- the kind of an operation, which must be an object with an op: the first steps of `operation_members`
unfoldable pub kind_of : Value.Value → Outcome Operation.Kind
kind_of v = require wrong_shape (is_object v.label) >>= λ _. string_member (ascii "op") v >>= kind_named

-- whatever the table holds: by the row's kind, and by the text of the row that is found for `op`
pub data KindRows (w : Table) (row : ℕ) (r : Option Kind) : Type 0 where
  no-object : (Fields.kind_of (get_or w.nodes row []) ≡ object_kind → ⊥) → kind_outcome r ≡ refused wrong_shape 0 → KindRows w row r
  object : {op : Option Spelling} → Fields.kind_of (get_or w.nodes row []) ≡ object_kind → StringIs w row (ascii "op") op
      → kind_outcome r ≡ (text_outcome (spelled w.texts) op >>= kind_named)
      → KindRows w row r

pub record KindIs (w : Table) (row : ℕ) (r : Option Kind) : Type 0 where
  pub rows : KindRows w row r
  pub held : ForMeant w row λ v. kind_outcome r ≡ kind_of v

-- whatever the table holds, an operation is refused with no other number
pub data OperationNumber : Verdict → Type 0 where
  nothing : OperationNumber (Ok tt)
  shape : OperationNumber (Err Refusal.WrongShape)
  pointer : OperationNumber (Err Refusal.MalformedPointer)
  into_child : OperationNumber (Err Refusal.MoveIntoChild)

-- ---- the steps, given the rows of the members: what is answered for a table that holds no node in the row is free
abbrev pub KindGiven : Table → ℕ → Option ℕ → Option Kind → Type 0
KindGiven w row op r = MemberIs w row (ascii "op") op → KindIs w row r

pub record ValueIs (value : Option ℕ) (used : Bool) (r : Verdict) : Type 0 where
  pub number : OperationNumber r
  pub held : (k : Operation.Kind) → used ≡ uses_value k → (w : Table) (row : ℕ) → MemberIs w row (ascii "value") value
      → ForMeant w row λ v. Answers (value_for k v) r

-- a path without `from`, as it stands in a string; the value is free
pub record OnlyPathIs (T : Texts) (path : Spelling) (r : Verdict) : Type 0 where
  pub number : OperationNumber r
  pub held : (k : Operation.Kind) → uses_from k ≡ false → (value : Value.Value) →
      Answers (with_pointers (record { kind = k; path = decode (part_of T path); from = []; value = value })) r

-- the pointers as they stand in strings; the value is free
pub record PointersAre (T : Texts) (moves : Bool) (path from : Spelling) (r : Verdict) : Type 0 where
  pub number : OperationNumber r
  pub held : (k : Operation.Kind) → moves ≡ is_move k → (value : Value.Value) →
      Answers (with_pointers (record { kind = k; path = decode (part_of T path); from = decode (part_of T from); value = value })) r

-- the members beside `op` and `path`, given where `path` stands
pub record OthersAre (w : Table) (row : ℕ) (kind : Option Kind) (path : Spelling) (r : Verdict) : Type 0 where
  pub number : OperationNumber r
  pub held : (k : Kind) → kind ≡ Some k → ForMeant w row λ v. string_member (ascii "path") v ≡ ok (decode (part_of w.texts path))
      → Answers (members_for (spec_kind k) v >>= with_pointers) r

pub record MembersAre (w : Table) (row : ℕ) (kind : Kind) (r : Verdict) : Type 0 where
  pub number : OperationNumber r
  pub held : ForMeant w row λ v. Answers (members_for (spec_kind kind) v >>= with_pointers) r

abbrev pub OthersGiven : Table → Members → Option Kind → Spelling → Verdict → Type 0
OthersGiven w found kind path r = (row : ℕ) → MembersFound w row found → OthersAre w row kind path r

abbrev pub MembersGiven : Table → Members → Kind → Verdict → Type 0
MembersGiven w found kind r = (row : ℕ) → MembersFound w row found → MembersAre w row kind r

pub record OperationIs (w : Table) (row : ℕ) (r : Verdict) : Type 0 where
  pub number : OperationNumber r
  pub held : ForMeant w row λ v. Answers (operation v) r
