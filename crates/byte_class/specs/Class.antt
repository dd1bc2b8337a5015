-- The classes of bytes in a JSON string: which bytes may stand there, start an escape or continue a character. RFC 8259, section 7, says it
-- of ASCII; RFC 3629, section 4, of the bytes of a character beyond ASCII.
use Rattle.std.specs.Prelude.{ℕ, ◌<◌, ◌≡◌, List, length, get_or, eqb, if◌then◌else◌}
use Prim.Native.Char.{code}
use Rattle.spec.specs.Bytes.{within}

pub data Class : Type 0 where
  quote : Class
  backslash : Class
  control : Class
  other-ascii : Class
  continuation : Class
  first_of_two : Class
  first_of_three : Class
  first_of_four : Class
  never : Class

-- a byte's class: `control` is every byte below 20 hex; `never` is C0, C1 and every byte from F5 on
unfoldable pub class_of : ℕ → Class
class_of b =
    if eqb b (code "\"") then quote else
    if eqb b (code "\\") then backslash else
    if within 0x00 0x1F b then control else
    if within 0x20 0x7F b then other-ascii else
    if within 0x80 0xBF b then continuation else
    if within 0xC2 0xDF b then first_of_two else
    if within 0xE0 0xEF b then first_of_three else
    if within 0xF0 0xF4 b then first_of_four else never

-- the symbol of a class in the table
unfoldable pub symbol : Class → ℕ
symbol quote = code "Q"
symbol backslash = code "E"
symbol control = code "0"
symbol other-ascii = code "."
symbol continuation = code "-"
symbol first_of_two = code "2"
symbol first_of_three = code "3"
symbol first_of_four = code "4"
symbol never = code "x"

-- A table of 256 entries follows a rule.
pub record Follows (rule : ℕ → ℕ) (table : List ℕ) : Type 0 where
  pub counted : length table ≡ 256
  pub each : (b : ℕ) → b < 256 → get_or table b 0 ≡ rule b

-- The class rule: each byte has its class.
abbrev pub ClassRule : List ℕ → Type 0
ClassRule = Follows (λ b. symbol (class_of b))
