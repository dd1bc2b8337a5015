-- A pointer's tokens by their places in the part that the pointer stands in.
use Rattle.std.specs.Prelude.{ℕ, ◌<◌, ◌≤◌, ◌≡◌, Bool, true, false, not, ◌&&◌, List, [], ◌∷◌, length, eqb}
use Prim.Native.Char.{code}
use Rattle.spec.specs.Outcome.{Outcome, ok, refused}
use Rattle.spec.specs.Refusal.{malformed_pointer}
use Rattle.spec.specs.Bytes.{Bytes, Text, within}
use Rattle.spec.specs.Pointer.{Tokens, tokens, segments, unescape_all}
use Rattle.lexer.specs.Names.{part}
use Rattle.text.specs.Decode.{decode, decode_from}
use Rattle.pointer.specs.declared.answers.First.{First}
use Rattle.pointer.specs.declared.answers.Token.{Token}

-- whether there is a result
unfoldable pub accepted : {A : Type 0} → Outcome A → Bool
accepted (ok a) = true
accepted (refused number place) = false

-- the tokens from a place after a slash on
unfoldable pub tokens_from : Bytes → ℕ → Outcome Tokens
tokens_from s at = unescape_all (segments (decode_from s at))

-- the tokens of a pointer, given where they begin
unfoldable pub tokens_after : Bytes → First → Outcome Tokens
tokens_after s First.Root = ok []
tokens_after s (First.At at) = tokens_from s at
tokens_after s First.Malformed = refused malformed_pointer 0

unfoldable pub Inside : Bytes → First → Type 0
Inside s First.Root = Unit {0}
Inside s (First.At at) = at ≤ length s
Inside s First.Malformed = Unit {0}

-- what holds of an answer that says where the tokens begin
pub record FirstOf (s : Bytes) (f : First) : Type 0 where
  pub gives : tokens (decode s) ≡ tokens_after s f
  pub inside : Inside s f

unfoldable pub end_of : Token → ℕ
end_of (Token.Last end) = end
end_of (Token.Next end next) = end

-- the bytes of a token that begins at a place
unfoldable pub token_bytes : Bytes → ℕ → Token → Bytes
token_bytes s at t = part s at (end_of t)

-- the segments behind a token
unfoldable pub segments_after : Bytes → Token → List Text
segments_after s (Token.Last end) = []
segments_after s (Token.Next end next) = segments (decode_from s next)

-- the order of the places: from a place within the part, none of them is past its end
unfoldable pub InOrder : Bytes → ℕ → Token → Type 0
InOrder s at (Token.Last end) = (at ≤ end) × (at ≤ length s → end ≤ length s)
InOrder s at (Token.Next end next) = (at ≤ end) × (end < next) × (next ≤ length s)

-- what holds of the answer for the token at a place
pub record TokenAt (s : Bytes) (at : ℕ) (t : Token) : Type 0 where
  pub splits : segments (decode_from s at) ≡ decode (token_bytes s at t) ∷ segments_after s t
  pub in_order : InOrder s at t

-- a byte that is a whole character, and no slash: of ASCII, from `0` on, and no backslash
unfoldable pub continues : ℕ → Bool
continues b = within 0x30 0x7F b && not (eqb b (code "\\"))
