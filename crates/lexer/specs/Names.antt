-- What is kept of a name as it is read, so that two names can be told apart without reading them again.
use Rattle.std.specs.Prelude.{ℕ, ◌-◌, [], ◌∷◌, Bool, true, not, ◌&&◌, take, drop, eqb}
use Prim.Native.Char.{code}
use Rattle.spec.specs.Outcome.{Outcome, ok, ◌>>=◌}
use Rattle.spec.specs.Bytes.{Bytes, Text, within}
use Rattle.lexer.specs.Hash.{hash}

-- a byte that is a whole character of its string: of ASCII, and neither control, quotation mark nor backslash
unfoldable pub stands_for_itself : ℕ → Bool
stands_for_itself b = within 0x20 0x7F b && (not (eqb b (code "\"")) && not (eqb b (code "\\")))

-- written with no escape
unfoldable pub no_backslash : Bytes → Bool
no_backslash [] = true
no_backslash (b ∷ bs) = not (eqb b (code "\\")) && no_backslash bs

-- the bytes from one place to another
unfoldable pub part : Bytes → ℕ → ℕ → Bytes
part s from to = take (to - from) (drop from s)

-- Of a string whose characters begin at a place, given those and the place after it: that place, and whether they are written with no escape.
unfoldable pub plain_of : Bytes → ℕ → Outcome (Text × ℕ) → Outcome (ℕ × Bool)
plain_of s start o = o >>= λ t. ok (t.1, no_backslash (part s start (t.1 - 1)))

-- What is kept of a string whose characters begin at a place, given those and the place after it: that place, the hash of the characters,
-- and whether they are written with no escape.
unfoldable pub kept : Bytes → ℕ → Text × ℕ → ℕ × ℕ × Bool
kept s start t = (t.1, hash t.0, no_backslash (part s start (t.1 - 1)))

unfoldable pub kept_of : Bytes → ℕ → Outcome (Text × ℕ) → Outcome (ℕ × ℕ × Bool)
kept_of s start o = o >>= λ t. ok (kept s start t)
