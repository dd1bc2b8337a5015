-- A record of Intel HEX, its line, and a text written as records: SPECIFICATION 13.2 and 13.3, T-07.
use Rattle.std.specs.Prelude.{ℕ, zero, suc, ◌+◌, ◌-◌, ◌/◌, ◌%◌, [], ◌∷◌, ◌++◌, length, take, drop, nat_lt, if◌then◌else◌}
use Prim.Native.Char.{code}
use Rattle.spec.specs.Bytes.{Bytes}
use Rattle.text.specs.UpperHex.{upper_hex}

-- "Write any text of at most 65,536 bytes"
abbrev pub max_text : ℕ
max_text = 65_536

-- "a line feed after every line"; before it, when reading, may stand a carriage return
abbrev pub line_feed : ℕ
line_feed = 0x0A

abbrev pub carriage_return : ℕ
carriage_return = 0x0D

-- the two types of records that there are here
abbrev pub data_type : ℕ
data_type = 0

abbrev pub end_type : ℕ
end_type = 1

-- ---- a record's bytes

-- the sum of bytes
unfoldable pub total : Bytes → ℕ
total [] = 0
total (b ∷ s) = b + total s

-- all of a record but its last byte: how many bytes of data, the address in two bytes, the type, the data
unfoldable pub body : ℕ → ℕ → Bytes → Bytes
body kind address d = length d ∷ address / 256 ∷ address % 256 ∷ kind ∷ d

-- "The record's sum of bytes, its last byte included, is zero modulo 256": the last byte of a record with this body
unfoldable pub check : Bytes → ℕ
check s = (256 - total s % 256) % 256

unfoldable pub record_bytes : ℕ → ℕ → Bytes → Bytes
record_bytes kind address d = body kind address d ++ check (body kind address d) ∷ []

-- ---- its line

-- "upper-case hex": the two digits of a byte, and those of bytes
unfoldable pub digits : ℕ → Bytes
digits b = upper_hex (b / 16) ∷ upper_hex (b % 16) ∷ []

unfoldable pub digits_of : Bytes → Bytes
digits_of [] = []
digits_of (b ∷ s) = digits b ++ digits_of s

-- "one record a line", "a line feed after every line, the last too"
unfoldable pub line_of : Bytes → Bytes
line_of r = code ":" ∷ digits_of r ++ line_feed ∷ []

-- ---- a text

-- "data records of 16 bytes, the last shorter, from address 0": those from a place of the text on; the fuel is at least the bytes left
unfoldable pub records_from : ℕ → Bytes → ℕ → Bytes
records_from zero text at = []
records_from (suc fuel) text at =
    if nat_lt at (length text) then line_of (record_bytes data_type at (take 16 (drop at text))) ++ records_from fuel text (at + 16) else []

-- ".. then `:00000001FF`"
unfoldable pub end_line : Bytes
end_line = line_of (record_bytes end_type 0 [])

unfoldable pub hex_of : Bytes → Bytes
hex_of text = records_from (length text) text 0 ++ end_line
