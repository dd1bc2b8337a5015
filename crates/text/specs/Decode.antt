-- What a part of a text says. A part is the bytes of a string between its quotation marks, or those of a pointer's token among them.
use Rattle.std.specs.Prelude.{ℕ, zero, suc, [], ◌∷◌, ◌&&◌, length, eqb, if◌then◌else◌}
use Prim.Native.Char.{code}
use Rattle.spec.specs.Outcome.{Outcome, ok, refused}
use Rattle.spec.specs.Refusal.{not_json}
use Rattle.spec.specs.Bytes.{Bytes, Text, byte}
use Rattle.spec.specs.Strings.{character}

-- the character at a place of a part, with the place after it; a quotation mark that is not escaped is none
unfoldable pub character_in : Bytes → ℕ → Outcome (ℕ × ℕ)
character_in s at = if eqb (byte s at) (code "\"") then refused not_json at else character s at

-- a character and the text after it, or no text where there is no character
unfoldable pub before : Outcome (ℕ × ℕ) → (ℕ → Text) → Text
before (ok read) rest = read.0 ∷ rest read.1
before (refused number place) rest = []

-- the characters from a place to the end of the part, or to the first that can't be read; the fuel is at least the number of bytes left
unfoldable pub decode_loop : ℕ → Bytes → ℕ → Text
decode_loop zero s at = []
decode_loop (suc fuel) s at = before (character_in s at) (decode_loop fuel s)

unfoldable pub decode_from : Bytes → ℕ → Text
decode_from s at = decode_loop (length s) s at

unfoldable pub decode : Bytes → Text
decode s = decode_from s 0

-- a pointer's token with each `~0` and `~1` read as one character, from the left to the right; a `~` before anything else is itself
unfoldable pub unescape_token : Text → Text
unescape_token [] = []
unescape_token (c ∷ []) = c ∷ []
unescape_token (c ∷ d ∷ s) =
    if eqb c (code "~") && eqb d (code "0") then code "~" ∷ unescape_token s else
    if eqb c (code "~") && eqb d (code "1") then code "/" ∷ unescape_token s else c ∷ unescape_token (d ∷ s)

-- A part's form says how it is read: 1 is a string without escapes, 2 any string, 3 a pointer's token in a string. Any other form says
-- the empty text.
unfoldable pub text_from : ℕ → Bytes → ℕ → Text
text_from form s at =
    if eqb form 1 then decode_from s at else
    if eqb form 2 then decode_from s at else
    if eqb form 3 then unescape_token (decode_from s at) else []

unfoldable pub text_of : ℕ → Bytes → Text
text_of form s = text_from form s 0
