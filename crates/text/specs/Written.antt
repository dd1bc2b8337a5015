-- What is written of a part, between quotation marks: SPECIFICATION 8.3.
use Rattle.std.specs.Prelude.{ℕ, ◌+◌, ◌/◌, ◌%◌, [], ◌∷◌, length, eqb, ◌≡◌, if◌then◌else◌}
use Prim.Native.Char.{code}
use Rattle.std.proofs.lemmas.List.Edits.{sets}
use Rattle.spec.specs.Bytes.{Bytes}
use Rattle.spec.specs.Write.{write_characters, hex_digit}
use Rattle.text.specs.Decode.{text_of}

-- A string that was read without escapes is written as it stands: that is its text, written (`plain_written` in proofs/PartLaws).
unfoldable pub written : ℕ → Bytes → Bytes
written form s = if eqb form 1 then s else write_characters (text_of form s)

-- Bytes stored from a place of an output on, where there is room: the place after them, and the output afterwards.
pub record Stored (bytes : Bytes) (at : ℕ) (before after : Bytes) (next : ℕ) : Type 0 where
  pub next_is : next ≡ at + length bytes
  pub after_is : after ≡ sets before at bytes

-- A part laid down at the front of an output: how many bytes it takes, and the output afterwards. Behind them the output is as it was; and
-- where there is no room for all, the first ones fill it (`laid_down` in proofs/StoreLaws).
pub record LaidDown (bytes before after : Bytes) (count : ℕ) : Type 0 where
  pub count_is : count ≡ length bytes
  pub after_is : after ≡ sets before 0 bytes

-- the letter of a character's two-character escape as it is written, and 0 where it has none
unfoldable pub short_letter : ℕ → ℕ
short_letter c =
    if eqb c (code "\"") then code "\"" else
    if eqb c (code "\\") then code "\\" else
    if eqb c 0x08 then code "b" else
    if eqb c 0x09 then code "t" else
    if eqb c 0x0A then code "n" else
    if eqb c 0x0C then code "f" else
    if eqb c 0x0D then code "r" else 0

-- the escape of a control that has no such letter
unfoldable pub hex_escape : ℕ → Bytes
hex_escape c = code "\\" ∷ code "u" ∷ code "0" ∷ code "0" ∷ hex_digit (c / 16) ∷ hex_digit (c % 16) ∷ []
