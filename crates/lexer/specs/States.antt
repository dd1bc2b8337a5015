-- The end of verbatim characters is found byte by byte, from state to state. The states by number: 0 between characters; 6, 12 and 18 with one,
-- two and three bytes of a character to come, each 80 to BF; 24 after E0, 30 after ED, 36 after F0 and 42 after F4, whose second bytes have
-- bounds of their own; 48 after a backslash; 54 where no character goes on.
use Rattle.std.specs.Prelude.{ℕ, zero, suc, ◌+◌, ◌*◌, ◌/◌, ◌%◌, ◌^◌, ◌<◌, List, ◌≡◌, Bool, get_or, eqb, if◌then◌else◌}
use Prim.Native.Char.{code}
use Rattle.spec.specs.Bytes.{Bytes, byte, within}
use Rattle.byte_class.specs.Column.{ColumnRule}
use Rattle.lexer.specs.Names.{stands_for_itself}
use Rattle.lexer.specs.Verbatim.{kept_escape}

-- for each state within a character: how many bytes are to come after the next, and the next one's bounds
pub data Awaits : ℕ → ℕ → ℕ → ℕ → Type 0 where
  one : Awaits 6 0 0x80 0xBF
  two : Awaits 12 1 0x80 0xBF
  three : Awaits 18 2 0x80 0xBF
  after_E0 : Awaits 24 1 0xA0 0xBF
  after_ED : Awaits 30 1 0x80 0x9F
  after_F0 : Awaits 36 2 0x90 0xBF
  after_F4 : Awaits 42 2 0x80 0x8F

-- the state after the first byte of a character of two to four bytes: table 3-7 of the Unicode standard, row by row
unfoldable pub first : ℕ → ℕ
first b =
    if within 0xC2 0xDF b then 6 else
    if within 0xE0 0xE0 b then 24 else
    if within 0xE1 0xEC b then 12 else
    if within 0xED 0xED b then 30 else
    if within 0xEE 0xEF b then 12 else
    if within 0xF0 0xF0 b then 36 else
    if within 0xF1 0xF3 b then 18 else
    if within 0xF4 0xF4 b then 42 else 54

-- after the first byte of any character, where escapes are let through or not
unfoldable pub begins : Bool → ℕ → ℕ
begins escapes b =
    if stands_for_itself b then 0 else
    if eqb b (code "\\") then (if escapes then 48 else 54) else first b

-- after a later byte, which must lie between two bounds, when `more` bytes are to come after it
unfoldable pub later : ℕ → ℕ → ℕ → ℕ → ℕ
later more low high b = if within low high b then 6 * more else 54

-- after a backslash and a letter
unfoldable pub escaped : ℕ → ℕ
escaped b = if kept_escape b then 0 else 54

-- The state after a byte, by two tables: the first gives the byte's column, and the second gives, for that column, six bits for each state.
unfoldable pub look : List ℕ → List ℕ → ℕ → ℕ → ℕ
look columns steps state b = get_or steps (get_or columns b 0 % 16) 0 / 2 ^ state % 64

-- the bytes of a block
abbrev pub block : ℕ
block = 7

-- the state after n bytes from a place on
unfoldable pub look_over : List ℕ → List ℕ → ℕ → ℕ → Bytes → ℕ → ℕ
look_over columns steps zero state s at = state
look_over columns steps (suc n) state s at = look_over columns steps n (look columns steps state (byte s at)) s (at + 1)

-- the two tables are right; the end leads to itself
pub record Tables (escapes : Bool) (columns steps : List ℕ) : Type 0 where
  pub between : (b : ℕ) → b < 256 → look columns steps 0 b ≡ begins escapes b
  pub inside : {state more low high : ℕ} → Awaits state more low high → (b : ℕ) → b < 256 → look columns steps state b ≡ later more low high b
  pub after : (b : ℕ) → b < 256 → look columns steps 48 b ≡ escaped b
  pub ended : (b : ℕ) → b < 256 → look columns steps 54 b ≡ 54

-- the second table is right beside whatever columns follow their rule
abbrev pub Steps : Bool → List ℕ → Type 0
Steps escapes steps = (columns : List ℕ) → ColumnRule columns → Tables escapes columns steps
