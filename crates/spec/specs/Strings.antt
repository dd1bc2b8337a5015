-- JSON's strings: RFC 8259, section 7, in UTF-8 as RFC 3629 has it. Each reader gives what it read with the place after it, or 3 at the first
-- byte that no valid text has after the bytes before it.
use Rattle.std.specs.Prelude.{ℕ, zero, suc, ◌+◌, ◌-◌, ◌*◌, [], ◌∷◌, length, eqb, if◌then◌else◌}
use Prim.Native.Char.{code}
use Rattle.spec.specs.Outcome.{Outcome, ok, refused, ◌>>=◌}
use Rattle.spec.specs.Refusal.{not_json}
use Rattle.spec.specs.Bytes.{Bytes, Text, byte, within, byte_in}

-- the value of a hexadecimal digit of either case, and 16 for any other byte
unfoldable pub hex_value : ℕ → ℕ
hex_value b =
    if within (code "0") (code "9") b then b - code "0" else
    if within (code "A") (code "F") b then b - code "A" + 10 else
    if within (code "a") (code "f") b then b - code "a" + 10 else 16

-- the value of the hexadecimal digit at a place, which must lie between two bounds, or 3 there
unfoldable pub hex_in : Bytes → ℕ → ℕ → ℕ → Outcome ℕ
hex_in s at low high = if within low high (hex_value (byte s at)) then ok (hex_value (byte s at)) else refused not_json at

-- "To escape an extended character that is not in the Basic Multilingual Plane, the character is represented as a 12-character sequence,
-- encoding the UTF-16 surrogate pair." These are the last four, DC00 to DFFF, given the high surrogate.
unfoldable pub low_surrogate : Bytes → ℕ → ℕ → Outcome (ℕ × ℕ)
low_surrogate s high at = do
  _ ← hex_in s at 0xD 0xD
  b ← hex_in s (at + 1) 0xC 0xF
  c ← hex_in s (at + 2) 0x0 0xF
  d ← hex_in s (at + 3) 0x0 0xF
  ok (0x1_0000 + (high - 0xD800) * 0x400 + ((b - 0xC) * 0x100 + c * 0x10 + d), at + 4)

-- the low surrogate's escape, which must follow that of the high one
unfoldable pub after_high : Bytes → ℕ → ℕ → Outcome (ℕ × ℕ)
after_high s high at = do
  _ ← byte_in s at (code "\\") (code "\\")
  _ ← byte_in s (at + 1) (code "u") (code "u")
  low_surrogate s high (at + 2)

-- How large the second digit may be, given the first: DC00 to DFFF are low surrogates, which no escape begins with.
unfoldable pub second_limit : ℕ → ℕ
second_limit a = if eqb a 0xD then 0xB else 0xF

-- the four digits after \u: a code point, or D800 to DBFF, a high surrogate, with the low one that follows
unfoldable pub unicode_escape : Bytes → ℕ → Outcome (ℕ × ℕ)
unicode_escape s at = do
  a ← hex_in s at 0x0 0xF
  b ← hex_in s (at + 1) 0x0 (second_limit a)
  c ← hex_in s (at + 2) 0x0 0xF
  d ← hex_in s (at + 3) 0x0 0xF
  let u = a * 0x1000 + b * 0x100 + c * 0x10 + d in if within 0xD800 0xDBFF u then after_high s u (at + 4) else ok (u, at + 4)

-- The two-character escapes: what the character after the backslash stands for, and 0 where it is none of the eight.
unfoldable pub short_escape : ℕ → ℕ
short_escape b =
    if eqb b (code "\"") then code "\"" else
    if eqb b (code "\\") then code "\\" else
    if eqb b (code "/") then code "/" else
    if eqb b (code "b") then 0x08 else
    if eqb b (code "f") then 0x0C else
    if eqb b (code "n") then 0x0A else
    if eqb b (code "r") then 0x0D else
    if eqb b (code "t") then 0x09 else 0

-- an escape after its backslash
unfoldable pub escape : Bytes → ℕ → Outcome (ℕ × ℕ)
escape s at =
    if eqb (byte s at) (code "u") then unicode_escape s (at + 1) else
    if eqb (short_escape (byte s at)) 0 then refused not_json at else ok (short_escape (byte s at), at + 1)

-- The bytes of a character after its first, given their number: the second one is within the given bounds, the others 80 to BF; `bits` are the code
-- point's from the bytes before, to which each byte adds six.
unfoldable pub tail : ℕ → Bytes → ℕ → ℕ → ℕ → ℕ → Outcome (ℕ × ℕ)
tail zero s at low high bits = ok (bits, at)
tail (suc more) s at low high bits = do
  b ← byte_in s at low high
  tail more s (at + 1) 0x80 0xBF (bits * 64 + (b - 0x80))

-- A character of two to four bytes, given the first: RFC 3629, section 4, and table 3-7 of the Unicode standard, row by row. The bounds on
-- the second byte keep out what has a shorter form, the surrogates, and what lies past 10FFFF.
unfoldable pub multibyte : Bytes → ℕ → ℕ → Outcome (ℕ × ℕ)
multibyte s at b =
    if within 0xC2 0xDF b then tail 1 s (at + 1) 0x80 0xBF (b - 0xC0) else
    if within 0xE0 0xE0 b then tail 2 s (at + 1) 0xA0 0xBF (b - 0xE0) else
    if within 0xE1 0xEC b then tail 2 s (at + 1) 0x80 0xBF (b - 0xE0) else
    if within 0xED 0xED b then tail 2 s (at + 1) 0x80 0x9F (b - 0xE0) else
    if within 0xEE 0xEF b then tail 2 s (at + 1) 0x80 0xBF (b - 0xE0) else
    if within 0xF0 0xF0 b then tail 3 s (at + 1) 0x90 0xBF (b - 0xF0) else
    if within 0xF1 0xF3 b then tail 3 s (at + 1) 0x80 0xBF (b - 0xF0) else
    if within 0xF4 0xF4 b then tail 3 s (at + 1) 0x80 0x8F (b - 0xF0) else refused not_json at

-- One character of a string: its code point and the place after it. A quotation mark ends the string, and the caller looks for it first.
unfoldable pub character : Bytes → ℕ → Outcome (ℕ × ℕ)
character s at =
    let b = byte s at in
    if eqb b (code "\\") then escape s (at + 1) else
    if within 0x20 0x7F b then ok (b, at + 1) else multibyte s at b

-- the characters from a place to the closing quotation mark, with the place after that; the fuel is at least the number of bytes left
unfoldable pub characters : ℕ → Bytes → ℕ → Outcome (Text × ℕ)
characters zero s at = refused not_json at
characters (suc fuel) s at =
    if eqb (byte s at) (code "\"") then ok ([], at + 1) else do
      (c, next) ← character s at
      (cs, end) ← characters fuel s next
      ok (c ∷ cs, end)

-- a string, at its opening quotation mark
unfoldable pub string : Bytes → ℕ → Outcome (Text × ℕ)
string s at = do
  _ ← byte_in s at (code "\"") (code "\"")
  characters (length s) s (at + 1)
