-- JSON Pointer, RFC 6901, section 3: "json-pointer = *( "/" reference-token )", where a `~` in a token is written `~0` and a `/` `~1`.
-- Every list of tokens is written as one pointer, and every pointer is so written.
use Rattle.std.specs.Prelude.{◌≡◌, ℕ, [], ◌∷◌, ◌++◌, eqb, if◌then◌else◌}
use Prim.Native.Char.{code}
use Rattle.spec.specs.Outcome.{ok}
use Rattle.spec.specs.Bytes.{Text, ascii}
use Rattle.spec.specs.Pointer.{Tokens, tokens}

unfoldable pub escape_character : ℕ → Text
escape_character c = if eqb c (code "~") then ascii "~0" else if eqb c (code "/") then ascii "~1" else c ∷ []

unfoldable pub escape_token : Text → Text
escape_token [] = []
escape_token (c ∷ t) = escape_character c ++ escape_token t

unfoldable pub pointer_of : Tokens → Text
pointer_of [] = []
pointer_of (t ∷ ts) = code "/" ∷ (escape_token t ++ pointer_of ts)

pub record PointersStatement : Type 0 where
  -- what is written is read back
  pub read_back : (ts : Tokens) → tokens (pointer_of ts) ≡ ok ts
  -- what is read was written so, and in no other way
  pub written_so : (p : Text) (ts : Tokens) → tokens p ≡ ok ts → pointer_of ts ≡ p
