-- T-08: "For every input and lent output for which neither form gives 1, the answer and written text equal the old ones". The old form is
-- kept here as a definition: its work area was two lent columns of 6,144 words of 64 bits, `values` and `names`.
use Rattle.std.specs.Prelude.{ℕ, ◌≡◌, Bool, ◌&&◌, List, leb, length}
use Rattle.spec.specs.Refusal.{work_too_short}
use Rattle.spec.specs.Bytes.{Bytes}
use Rattle.spec.specs.Answer as Spec
use Rattle.spec.specs.Answer.{answer_in}
use Rattle.tape.specs.Lent.{Texts}
use Rattle.json_patch.specs.Call.{Memory, Answered, wiped, ApplyIs}
use Rattle.json_patch.specs.declared.answer.Answer.{Answer}

-- ---- what a call was lent
abbrev pub work_words : ℕ
work_words = 6_144

pub record ColumnMemory : Type 0 where
  pub output : Bytes
  pub values : List ℕ
  pub names : List ℕ

unfoldable pub columns_suffice : ColumnMemory → Bool
columns_suffice m = leb work_words (length m.values) && leb work_words (length m.names)

-- ---- what it answered: the same answer, by whether that work area sufficed
unfoldable pub column_answer : Texts → ColumnMemory → Spec.Answer
column_answer T m = answer_in (columns_suffice m) (length m.output) T.document T.patch

-- its contract
pub record ColumnApplyIs (T : Texts) (m m' : ColumnMemory) (r : Answer) : Type 0 where
  pub answered : Answered (column_answer T m) m.output m'.output r
  pub values-after : m'.values ≡ wiped (columns_suffice m) work_words 0 m.values
  pub names-after : m'.names ≡ wiped (columns_suffice m) work_words 0 m.names

-- ---- the theorem, of any two calls with the same output lent
-- every field of the two answers is the same
pub record SameAnswer (r q : Answer) : Type 0 where
  pub number : r.number ≡ q.number
  pub text : r.text ≡ q.text
  pub op : r.op ≡ q.op
  pub place : r.place ≡ q.place
  pub pointer : r.pointer ≡ q.pointer
  pub written : r.length ≡ q.length

pub record SameCalls (r q : Answer) (output output' : Bytes) : Type 0 where
  pub answers : SameAnswer r q
  pub outputs : output ≡ output'

abbrev pub ColumnsStatement : Type 0
ColumnsStatement =
    (T : Texts) (m m' : Memory) (c c' : ColumnMemory) (r q : Answer) → m.output ≡ c.output → ApplyIs T m m' r → ColumnApplyIs T c c' q
    → (r.number ≡ work_too_short → ⊥) → (q.number ≡ work_too_short → ⊥) → SameCalls r q m'.output c'.output
