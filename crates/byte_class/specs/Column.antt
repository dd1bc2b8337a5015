-- What needs more than a class: each byte's column in the table of steps, by which a string is read byte by byte, from state to state. The column is
-- the symbol of the byte's class, except for the bytes named here.
use Rattle.std.specs.Prelude.{ℕ, List, eqb, if◌then◌else◌}
use Prim.Native.Char.{code}
use Rattle.spec.specs.Bytes.{within}
use Rattle.byte_class.specs.Class.{class_of, symbol, Follows}

-- the columns that belong to no class
abbrev pub from_80 : ℕ
from_80 = 6

abbrev pub from_90 : ℕ
from_90 = 7

abbrev pub first_E0 : ℕ
first_E0 = 9

abbrev pub first_ED : ℕ
first_ED = 10

abbrev pub first_F0 : ℕ
first_F0 = 11

abbrev pub first_F4 : ℕ
first_F4 = 12

abbrev pub kept_escape_lem : ℕ
kept_escape_lem = 15

-- RFC 3629, section 4: the second byte is A0 to BF after E0, 80 to 9F after ED, 90 to BF after F0 and 80 to 8F after F4. So the continuation bytes 80
-- to 8F and 90 to 9F have columns of their own; A0 to BF keep the column of their class.
unfoldable pub continued : ℕ → ℕ
continued b =
    if within 0x90 0x9F b then from_90 else
    if within 0x80 0x8F b then from_80 else symbol (class_of b)

-- The letters of the escapes that are written as they are read have a column of their own: those of RFC 8259, section 7, except the slash and u. The
-- quotation mark and the backslash are classes already.
unfoldable pub lettered : ℕ → ℕ
lettered b =
    if eqb b (code "t") then kept_escape_lem else
    if eqb b (code "r") then kept_escape_lem else
    if eqb b (code "n") then kept_escape_lem else
    if eqb b (code "f") then kept_escape_lem else
    if eqb b (code "b") then kept_escape_lem else continued b

-- The four first bytes E0, ED, F0 and F4 have columns of their own.
unfoldable pub column_of : ℕ → ℕ
column_of b =
    if eqb b 0xF4 then first_F4 else
    if eqb b 0xF0 then first_F0 else
    if eqb b 0xED then first_ED else
    if eqb b 0xE0 then first_E0 else lettered b

abbrev pub ColumnRule : List ℕ → Type 0
ColumnRule = Follows column_of
