-- Intel HEX read, line by line: SPECIFICATION 13.4. T-07: "Read back data records of 1 to 255 bytes that follow on from address 0, either case, line
-- feed or carriage return and line feed; the last line may lack its ending." Each definition is of what is left of the text, which begins with
-- a line.
use Rattle.std.specs.Prelude.{ℕ, zero, suc, ◌+◌, ◌*◌, ◌%◌, Bool, true, ◌&&◌, ◌||◌, leb, [], ◌∷◌, ◌++◌, length, drop, ◌==◌, nat_le, nat_lt, if◌then◌else◌}
use Prim.Native.Char.{code}
use Rattle.spec.specs.Outcome.{Outcome, ok, refused, ◌>>=◌}
use Rattle.spec.specs.Bytes.{Bytes, byte}
use Rattle.spec.specs.Strings.{hex_value}
use Rattle.intel_hex.specs.Record.{max_text, line_feed, carriage_return, data_type, end_type, total}

-- the refusals, "place being the line from 1, in this order on a line": 21, 18, 19, 20
abbrev pub not_a_record : ℕ
not_a_record = 18

abbrev pub wrong_sum : ℕ
wrong_sum = 19

abbrev pub wrong_address : ℕ
wrong_address = 20

abbrev pub wrong_end : ℕ
wrong_end = 21

-- ---- digits

-- the byte that two digits of either case stand for, and whether they are digits
unfoldable pub hex_byte : Bytes → ℕ → ℕ
hex_byte t k = hex_value (byte t k) * 16 + hex_value (byte t (k + 1))

unfoldable pub is_hex_byte : Bytes → ℕ → Bool
is_hex_byte t k = nat_lt (hex_value (byte t k)) 16 && nat_lt (hex_value (byte t (k + 1))) 16

-- the same of n bytes
unfoldable pub bytes_at : ℕ → Bytes → ℕ → Bytes
bytes_at zero t k = []
bytes_at (suc n) t k = hex_byte t k ∷ bytes_at n t (k + 2)

unfoldable pub all_hex : ℕ → Bytes → ℕ → Bool
all_hex zero t k = true
all_hex (suc n) t k = is_hex_byte t k && all_hex n t (k + 2)

-- ---- the fields of a line: a colon; the bytes of data and how many there are; the address, the type; five bytes beside the data

unfoldable pub count : Bytes → ℕ
count t = hex_byte t 1

unfoldable pub address_of : Bytes → ℕ
address_of t = hex_byte t 3 * 256 + hex_byte t 5

unfoldable pub type_of : Bytes → ℕ
type_of t = hex_byte t 7

unfoldable pub data_of : Bytes → Bytes
data_of t = bytes_at (count t) t 9

unfoldable pub bytes_of : Bytes → Bytes
bytes_of t = bytes_at (count t + 5) t 1

-- where the record ends
unfoldable pub record_end : Bytes → ℕ
record_end t = 2 * count t + 11

-- How many bytes end a line at a place: none at the end of the text, otherwise a line feed, or a carriage return and a line feed; 3 where there is
-- no ending.
unfoldable pub ending : Bytes → ℕ → ℕ
ending t k =
    if nat_le (length t) k then 0 else
    if byte t k == line_feed then 1 else
    if byte t k == carriage_return && byte t (k + 1) == line_feed then 2 else 3

unfoldable pub line_length : Bytes → ℕ
line_length t = record_end t + ending t (record_end t)

-- ---- what a line is

-- a record of any type, whatever its sum
unfoldable pub is_line : Bytes → Bool
is_line t = byte t 0 == (code ":") && (all_hex (count t + 5) t 1 && nat_lt (ending t (record_end t)) 3)

-- not "a zero-length data record"
unfoldable pub is_data : Bytes → Bool
is_data t = type_of t == data_type && nat_le 1 (count t)

-- not "an end record with another length or address"
unfoldable pub is_end : Bytes → Bool
is_end t = type_of t == end_type && (count t == 0 && address_of t == 0)

-- "18 not a record, an empty line, a zero-length data record, an end record with another length or address, or another type"
unfoldable pub is_record : Bytes → Bool
is_record t = is_line t && (is_data t || is_end t)

unfoldable pub has_sum : Bytes → Bool
has_sum t = total (bytes_of t) % 256 == 0

-- not "20 address not the next or past 65,536 bytes"
unfoldable pub is_next : Bytes → ℕ → Bool
is_next t next = address_of t == next && nat_le (next + count t) max_text

-- ---- the reader

-- bytes before others
unfoldable pub precede : Bytes → Outcome Bytes → Outcome Bytes
precede d o = o >>= λ t. ok (d ++ t)

-- A record with the right sum, given what the lines behind it give. "21 anything after the end record": the line after it is refused.
unfoldable pub by_type : Bytes → ℕ → ℕ → Outcome Bytes → Outcome Bytes
by_type t line next behind =
    if is_end t then (if leb (length t) (line_length t) then ok [] else refused wrong_end (line + 1)) else
    if is_next t next then precede (data_of t) behind else refused wrong_address line

-- A line: 18, then 19, then 20.
unfoldable pub read_line : Bytes → ℕ → ℕ → Outcome Bytes → Outcome Bytes
read_line t line next behind =
    if is_record t then (if has_sum t then by_type t line next behind else refused wrong_sum line) else refused not_a_record line

-- The lines that are left, the first of which has a number and should have the next address; the fuel is at least the bytes left. "21 also for
-- a missing end record, at one past the last line".
unfoldable pub read_from : ℕ → Bytes → ℕ → ℕ → Outcome Bytes
read_from zero t line next = refused wrong_end line
read_from (suc fuel) t line next =
    if length t == 0 then refused wrong_end line else
    read_line t line next (read_from fuel (drop (line_length t) t) (line + 1) (next + count t))

unfoldable pub read_text : Bytes → Outcome Bytes
read_text s = read_from (length s) s 1 0
