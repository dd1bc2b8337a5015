-- A text as it is lent is the list of its bytes. Past its end stands 0, which no JSON text holds, so that the end of the text is refused
-- as any other byte out of place is, and no reader tests a length.
use Rattle.std.specs.Prelude.{ℕ, List, [], ◌∷◌, Bool, ◌&&◌, get_or, leb, if◌then◌else◌}
use Prim.Native.Char.{code}
use Prim.Native.String as Str
use Rattle.spec.specs.Outcome.{Outcome, ok, refused}
use Rattle.spec.specs.Refusal.{not_json}

abbrev pub Bytes : Type 0
Bytes = List ℕ

-- an unescaped text: its code points
abbrev pub Text : Type 0
Text = List ℕ

-- the text that is written between the quotes here, of characters of ASCII: its bytes, which are its code points too
unfoldable pub ascii : Str.String → Text
ascii Str.[] = []
ascii (Str.◌∷◌ c s) = code c ∷ ascii s

-- the byte at a place, and 0 past the end
unfoldable pub byte : Bytes → ℕ → ℕ
byte s at = get_or s at 0

unfoldable pub within : ℕ → ℕ → ℕ → Bool
within low high n = leb low n && leb n high

-- the byte at a place, which must lie between two bounds, or 3 there
unfoldable pub byte_in : Bytes → ℕ → ℕ → ℕ → Outcome ℕ
byte_in s at low high = if within low high (byte s at) then ok (byte s at) else refused not_json at
