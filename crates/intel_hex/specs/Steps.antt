-- What the code answers on the way.
use Rattle.std.specs.Prelude.{◌≡◌, ℕ, ◌+◌, ◌*◌, ◌%◌, ◌<◌, ◌≤◌, true, false, [], length, Option, Some, None, Result, Ok, Err, SomeIff}
use Rattle.spec.specs.Outcome.{Outcome, ok, refused}
use Rattle.spec.specs.Bytes.{Bytes}
use Rattle.text.specs.Written.{Stored}
use Rattle.intel_hex.specs.Record.{max_text, data_type, end_type, total, record_bytes, line_of}
use Rattle.intel_hex.specs.Reading.{bytes_at, all_hex, count, address_of, type_of, data_of, bytes_of, ending, line_length, is_line, precede}
use Rattle.intel_hex.specs.Reading.{read_line, read_text}
use Rattle.intel_hex.specs.Refusal.{number_of}
use Rattle.intel_hex.specs.declared.lines.Record.{Record}
use Rattle.intel_hex.specs.declared.lines.Form.{Form}
use Rattle.intel_hex.specs.declared.refusal.HexFault.{HexFault}

-- a line of n bytes of data fits behind a place, and its address is one of a text
abbrev pub Fits : ℕ → ℕ → ℕ → ℕ → Type 0
Fits address n at room = (address < max_text) × (n < 256) × (at + 2 * n + 12 ≤ room)

-- the line of a record, stored
abbrev pub LineStored : ℕ → ℕ → Bytes → ℕ → Bytes → Bytes → ℕ → Type 0
LineStored kind address d at before after next = Stored (line_of (record_bytes kind address d)) at before after next

-- n bytes in digits, and their sum
abbrev pub ScanIs : ℕ → Bytes → ℕ → Option ℕ → Type 0
ScanIs n t k r = SomeIff r (all_hex n t k ≡ true) (total (bytes_at n t k) % 256)

-- an ending of a line
abbrev pub EndingIs : Bytes → ℕ → Option ℕ → Type 0
EndingIs t k r = SomeIff r (ending t k < 3) (ending t k)

-- a line that is a record of some type: its fields, its sum and the length of the line
pub record FieldsAre (t : Bytes) (r : Record) : Type 0 where
  pub line : is_line t ≡ true
  pub count_is : r.count ≡ count t
  pub address_is : r.address ≡ address_of t
  pub kind_is : r.kind ≡ type_of t
  pub sum_is : r.sum ≡ total (bytes_of t) % 256
  pub width_is : r.width ≡ line_length t

unfoldable pub RecordIs : Bytes → Option Record → Type 0
RecordIs t (Some r) = FieldsAre t r
RecordIs t None = is_line t ≡ false

-- what a record is by its type, count and address
abbrev pub FormIs : Record → Option Form → Type 0
FormIs r (Some Form.Data) = (r.kind ≡ data_type) × (1 ≤ r.count)
FormIs r (Some Form.End) = (r.kind ≡ end_type) × (r.count ≡ 0) × (r.address ≡ 0)
FormIs r None = (r.kind ≡ data_type → r.count ≡ 0) × (r.kind ≡ end_type → r.count ≡ 0 → r.address ≡ 0 → ⊥)

-- what reading a line comes to, given what the lines behind it give
unfoldable pub stepped : Bytes → Outcome Bytes → Result (Option Record) HexFault → Outcome Bytes
stepped t behind (Ok (Some r)) = precede (data_of t) behind
stepped t behind (Ok None) = ok []
stepped t behind (Err e) = refused (number_of e.refusal) e.line

-- a record of data lies within the text, and the data are few enough
unfoldable pub Onward : Bytes → ℕ → Result (Option Record) HexFault → Type 0
Onward t next (Ok (Some r)) =
    (r.count ≡ count t) × (r.width ≡ line_length t) × (11 ≤ r.width) × (r.width ≤ length t) × (next + r.count ≤ max_text)
Onward t next (Ok None) = Unit {0}
Onward t next (Err e) = Unit {0}

pub record StepIs (t : Bytes) (line next : ℕ) (r : Result (Option Record) HexFault) : Type 0 where
  pub gives : (behind : Outcome Bytes) → read_line t line next behind ≡ stepped t behind r
  pub onward : Onward t next r

-- how many bytes are read, with those that were read before, or the refusal
unfoldable pub sized : ℕ → Outcome Bytes → Outcome ℕ
sized n (ok d) = ok (n + length d)
sized n (refused number line) = refused number line

-- a text that is read
pub record Accepted (s : Bytes) : Type 0 where
  pub text : Bytes
  pub is : read_text s ≡ ok text

-- the data of a text, where it is read
unfoldable pub text_of : Outcome Bytes → Bytes
text_of (ok d) = d
text_of (refused number line) = []
