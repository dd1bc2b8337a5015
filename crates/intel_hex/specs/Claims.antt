-- What the definitions come to. proofs/ClaimTheorems proves each.
use Rattle.std.specs.Prelude.{◌≡◌, ℕ, ◌+◌, ◌*◌, ◌%◌, ◌<◌, ◌≤◌, [], ◌∷◌, ◌++◌, length}
use Prim.Native.Char.{code}
use Rattle.spec.specs.Bytes.{Bytes, ascii}
use Rattle.spec.specs.Strings.{hex_value}
use Rattle.intel_hex.specs.Record.{max_text, line_feed, carriage_return, data_type, end_type, total, record_bytes, hex_of}
use Rattle.intel_hex.specs.Answer.{write_answer, read_answer, success}

-- numbers that are bytes
pub data Octets : Bytes → Type 0 where
  none : Octets []
  more : {b : ℕ} {s : Bytes} → b < 256 → Octets s → Octets (b ∷ s)

-- T-07: "Reading what was written returns the text."
abbrev pub RoundTrip : Type 0
RoundTrip =
    (text written : Bytes) (room room' : ℕ) → Octets text → write_answer text room ≡ success written → length text ≤ room' →
    read_answer written room' ≡ success text

-- "The record's sum of bytes, its last byte included, is zero modulo 256": of every record that is written.
abbrev pub SumIsZero : Type 0
SumIsZero = (kind address : ℕ) (d : Bytes) → total (record_bytes kind address d) % 256 ≡ 0

-- "`{}` gives `:020000007B7D06`", and then the end record
abbrev pub Example : Type 0
Example = hex_of (ascii "{}") ≡ ascii ":020000007B7D06\n:00000001FF\n"

-- ---- the texts that are read, without a reader

-- digits that spell bytes, "either case"
pub data Spells : Bytes → Bytes → Type 0 where
  none : Spells [] []
  more : {h l : ℕ} {ds r : Bytes} → hex_value h < 16 → hex_value l < 16 → Spells ds r → Spells (h ∷ l ∷ ds) ((hex_value h * 16 + hex_value l) ∷ r)

-- "line feed or carriage return and line feed; the last line may lack its ending": a line's ending, and what stands behind it
pub data Ending : Bytes → Bytes → Type 0 where
  lf : {behind : Bytes} → Ending (line_feed ∷ behind) behind
  crlf : {behind : Bytes} → Ending (carriage_return ∷ line_feed ∷ behind) behind
  missing : Ending [] []

-- a text that begins with the line of a record, and what stands behind that line
pub record Line (t r behind : Bytes) : Type 0 where
  pub digits : Bytes
  pub ended : Bytes
  pub begins : t ≡ code ":" ∷ digits ++ ended
  pub spells : Spells digits r
  pub ends : Ending ended behind

-- a text of records whose data begin at an address, with the data: "data records [..] that follow on", then the end record, and nothing behind it
pub data HexText : ℕ → Bytes → Bytes → Type 0 where
  last : {next : ℕ} {t : Bytes} → Line t (record_bytes end_type 0 []) [] → HexText next t []
  more : {next : ℕ} {t behind text : Bytes} (d : Bytes) → 1 ≤ length d → next + length d ≤ max_text → Line t (record_bytes data_type next d) behind →
      HexText (next + length d) behind text → HexText next t (d ++ text)

-- The reader accepts exactly the texts of records that follow on from address 0, and gives their data.
abbrev pub OnlyRecords : Type 0
OnlyRecords = (s text : Bytes) (room : ℕ) → read_answer s room ≡ success text → HexText 0 s text

abbrev pub AllRecords : Type 0
AllRecords = (s text : Bytes) (room : ℕ) → HexText 0 s text → length text ≤ room → read_answer s room ≡ success text
