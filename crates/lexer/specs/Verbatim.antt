-- Characters that stand in a text as they are written.
use Rattle.std.specs.Prelude.{ℕ, ◌+◌, ◌≡◌, Bool, true, false, eqb, if◌then◌else◌}
use Prim.Native.Char.{code}
use Rattle.spec.specs.Outcome.{ok, refused}
use Rattle.spec.specs.Refusal.{not_json}
use Rattle.spec.specs.Bytes.{Bytes, byte}
use Rattle.spec.specs.Strings.{character}

-- the letters whose two-character escapes are written as they are read
unfoldable pub kept_escape : ℕ → Bool
kept_escape b =
    if eqb b (code "\"") then true else
    if eqb b (code "\\") then true else
    if eqb b (code "b") then true else
    if eqb b (code "f") then true else
    if eqb b (code "n") then true else
    if eqb b (code "r") then true else
    if eqb b (code "t") then true else false

-- From a place to another stand whole characters, one after another, none of them a quotation mark: each is written with no escape or, where
-- escapes are let through, with one that is written as it is read.
pub data Verbatim (escapes : Bool) (s : Bytes) (start : ℕ) : ℕ → Type 0 where
  none : Verbatim escapes s start start
  raw : {at c next : ℕ} → Verbatim escapes s start at → (byte s at ≡ code "\"" → ⊥) → (byte s at ≡ code "\\" → ⊥) → character s at ≡ ok (c, next) →
      Verbatim escapes s start next
  short : {at : ℕ} → Verbatim escapes s start at → escapes ≡ true → byte s at ≡ code "\\" → kept_escape (byte s (at + 1)) ≡ true →
      Verbatim escapes s start (at + 2)

-- No such character follows: at the place stands a quotation mark, an escape that is not let through, or what no character is read from.
pub data Ends (escapes : Bool) (s : Bytes) (at : ℕ) : Type 0 where
  quote : byte s at ≡ code "\"" → Ends escapes s at
  escape : byte s at ≡ code "\\" → (escapes ≡ true → kept_escape (byte s (at + 1)) ≡ false) → Ends escapes s at
  unread : (place : ℕ) → character s at ≡ refused not_json place → Ends escapes s at

pub record VerbatimTo (escapes : Bool) (s : Bytes) (start at : ℕ) : Type 0 where
  pub passed : Verbatim escapes s start at
  pub ends : Ends escapes s at
