-- One character of what a part says: its code point with the place after it, or a refusal where the text ends.
use Rattle.std.specs.Prelude.{ℕ, ◌+◌, ◌≡◌, Bool, ◌&&◌, eqb, ltb, if◌then◌else◌}
use Prim.Native.Char.{code}
use Rattle.spec.specs.Outcome.{Outcome, ok, refused, ◌>>=◌}
use Rattle.spec.specs.Refusal.{not_json}
use Rattle.spec.specs.Bytes.{Bytes, byte, within}
use Rattle.lexer.specs.Names.{stands_for_itself}
use Rattle.text.specs.Decode.{character_in}

-- after a `~`, given the character behind it and the place between the two
unfoldable pub after_tilde : Outcome (ℕ × ℕ) → ℕ → ℕ × ℕ
after_tilde (ok (d, after)) next =
    if eqb d (code "0") then (code "~", after) else
    if eqb d (code "1") then (code "/", after) else (code "~", next)
after_tilde (refused number place) next = (code "~", next)

-- a token's character, given the string's at its place
unfoldable pub token_step : Bytes → ℕ → ℕ → ℕ × ℕ
token_step s c next = if eqb c (code "~") then after_tilde (character_in s next) next else (c, next)

unfoldable pub token_letter : Bytes → ℕ → Outcome (ℕ × ℕ)
token_letter s at = do
  (c, next) ← character_in s at
  ok (token_step s c next)

-- the character at a place of a part, by the part's form
unfoldable pub letter_at : ℕ → Bytes → ℕ → Outcome (ℕ × ℕ)
letter_at form s at =
    if eqb form 1 then character_in s at else
    if eqb form 2 then character_in s at else
    if eqb form 3 then token_letter s at else refused not_json at

-- a byte that is a letter by itself, in every form: a whole character that stands before `~`
unfoldable pub is_letter : ℕ → Bool
is_letter b = ltb b (code "~") && stands_for_itself b

-- the byte at a place, where it is the letter there by itself, and 0 otherwise
unfoldable pub plain_at : ℕ → Bytes → ℕ → ℕ
plain_at form s at = if is_letter (byte s at) then (if within 1 3 form then byte s at else 0) else 0

-- this many letters from the first on are the same in both parts, each of them a byte that is a letter by itself
pub data Common (form : ℕ) (a : Bytes) (other : ℕ) (b : Bytes) : ℕ → Type 0 where
  none : Common form a other b 0
  more : {i : ℕ} → Common form a other b i → (plain_at form a i ≡ 0 → ⊥) → plain_at form a i ≡ plain_at other b i → Common form a other b (i + 1)
