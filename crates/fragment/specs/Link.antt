-- A pointer as a URI's fragment: RFC 6901, section 6. "The pointer is .. encoded in UTF-8 [RFC3629] octets, while percent-encoding those
-- characters not allowed by the fragment rule in [RFC3986]." A link is `#` and that fragment.
use Rattle.std.specs.Prelude.{ℕ, zero, suc, ◌+◌, ◌*◌, ◌/◌, ◌%◌, [], ◌∷◌, ◌++◌, Bool, length, leb, ltb, eqb, if◌then◌else◌}
use Prim.Native.Char.{code}
use Rattle.spec.specs.Outcome.{Outcome, ok, refused, ◌>>=◌}
use Rattle.spec.specs.Bytes.{Bytes, Text, byte}
use Rattle.spec.specs.Strings.{hex_value, multibyte}
use Rattle.spec.specs.Pointer.{tokens}
use Rattle.pointer.specs.Tokens.{accepted}
use Rattle.text.specs.UpperHex.{upper_hex}
use Rattle.fragment.specs.Kept.{is_kept}

-- T-14: "22 for no `#` in front, a bad byte, a bad percent or bytes that are not UTF-8"
abbrev pub bad_link : ℕ
bad_link = 22

-- ---- written

-- an octet: a kept one as it is, and "each other byte as `%` with two upper-case hex digits"
unfoldable pub encoded : ℕ → Bytes
encoded b = if is_kept b then b ∷ [] else code "%" ∷ upper_hex (b / 16) ∷ upper_hex (b % 16) ∷ []

unfoldable pub encode_all : Bytes → Bytes
encode_all [] = []
encode_all (b ∷ s) = encoded b ++ encode_all s

-- "The writer puts `#` in front."
unfoldable pub link : Bytes → Bytes
link pointer = code "#" ∷ encode_all pointer

-- ---- read

-- what stands before a byte of a link and is unfinished: nothing; a `%`; a `%` and a digit of this value
pub data Pending : Type 0 where
  nothing : Pending
  percent : Pending
  digit : ℕ → Pending

unfoldable pub is_hex : ℕ → Bool
is_hex b = ltb (hex_value b) 16

-- an octet before others
unfoldable pub precede : ℕ → Outcome Bytes → Outcome Bytes
precede b o = o >>= λ t. ok (b ∷ t)

-- The octets that a fragment stands for: "The reader takes that set and `%` with two hex digits of either case." RFC 3986, section 2.1:
-- pct-encoded = "%" HEXDIG HEXDIG. Each byte is looked at once. SPECIFICATION 12.3: "Percents are undone once."
unfoldable pub octets : Pending → Bytes → Outcome Bytes
octets nothing [] = ok []
octets percent [] = refused bad_link 0
octets (digit h) [] = refused bad_link 0
octets nothing (b ∷ s) =
    if eqb b (code "%") then octets percent s else
    if is_kept b then precede b (octets nothing s) else refused bad_link 0
octets percent (b ∷ s) = if is_hex b then octets (digit (hex_value b)) s else refused bad_link 0
octets (digit h) (b ∷ s) = if is_hex b then precede (h * 16 + hex_value b) (octets nothing s) else refused bad_link 0

-- those of a link, which begins with `#`
unfoldable pub octets_of : Bytes → Outcome Bytes
octets_of [] = refused bad_link 0
octets_of (b ∷ s) = if eqb b (code "#") then octets nothing s else refused bad_link 0

-- ---- UTF-8, and pointers

-- the character at a place, its code point with the place after it: one byte of ASCII, or two to four by table 3-7 of the Unicode standard
unfoldable pub character_at : Bytes → ℕ → Outcome (ℕ × ℕ)
character_at s at = if leb (byte s at) 0x7F then ok (byte s at, at + 1) else multibyte s at (byte s at)

-- the characters from a place to the end; the fuel is at least the number of bytes left
unfoldable pub characters_from : ℕ → Bytes → ℕ → Outcome Text
characters_from zero s at = ok []
characters_from (suc fuel) s at =
    if ltb at (length s) then (do
      (c, next) ← character_at s at
      cs ← characters_from fuel s next
      ok (c ∷ cs))
    else ok []

-- the text that the bytes encode in UTF-8, or a refusal where they are not UTF-8
unfoldable pub characters : Bytes → Outcome Text
characters s = characters_from (length s) s 0

unfoldable pub is_utf8 : Bytes → Bool
is_utf8 s = accepted (characters s)

-- bytes in UTF-8 whose text is a pointer: RFC 6901, section 3, by `tokens` of spec
unfoldable pub is_pointer : Bytes → Bool
is_pointer s = accepted (characters s >>= tokens)
