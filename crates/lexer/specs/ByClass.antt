-- What a character is by the class of its first byte. Besides the class, only the bounds of a second byte are needed.
use Rattle.std.specs.Prelude.{ℕ, ◌+◌, ◌-◌, ◌≡◌, eqb, if◌then◌else◌}
use Rattle.spec.specs.Outcome.{Outcome, ok, refused}
use Rattle.spec.specs.Refusal.{not_json}
use Rattle.spec.specs.Bytes.{Bytes, byte}
use Rattle.spec.specs.Strings.{escape, tail, character}
use Rattle.byte_class.specs.Class.{Class, class_of, symbol}
use Rattle.byte_class.specs.Class.{quote, backslash, control, other-ascii, continuation, first_of_two, first_of_three, first_of_four, never}
use Rattle.lexer.specs.Names.{stands_for_itself}

-- the bounds of the second byte, given the first: RFC 3629, section 4
unfoldable pub second_least : ℕ → ℕ
second_least b = if eqb b 0xE0 then 0xA0 else if eqb b 0xF0 then 0x90 else 0x80

unfoldable pub second_most : ℕ → ℕ
second_most b = if eqb b 0xED then 0x9F else if eqb b 0xF4 then 0x8F else 0xBF

-- the character that begins with a byte of a class; a quotation mark is one too, unless the caller looked for it first
unfoldable pub by_class : Bytes → ℕ → ℕ → Class → Outcome (ℕ × ℕ)
by_class s at b quote = ok (b, at + 1)
by_class s at b backslash = escape s (at + 1)
by_class s at b control = refused not_json at
by_class s at b other-ascii = ok (b, at + 1)
by_class s at b continuation = refused not_json at
by_class s at b first_of_two = tail 1 s (at + 1) (second_least b) (second_most b) (b - 0xC0)
by_class s at b first_of_three = tail 2 s (at + 1) (second_least b) (second_most b) (b - 0xE0)
by_class s at b first_of_four = tail 3 s (at + 1) (second_least b) (second_most b) (b - 0xF0)
by_class s at b never = refused not_json at

-- Every text is read by the classes, at every place.
abbrev pub CharactersByClass : Type 0
CharactersByClass = (s : Bytes) (at : ℕ) → character s at ≡ by_class s at (byte s at) (class_of (byte s at))

-- A byte stands for itself exactly if it is of the class of other ASCII.
abbrev pub ItselfByClass : Type 0
ItselfByClass = (b : ℕ) → stands_for_itself b ≡ eqb (symbol (class_of b)) (symbol other-ascii)
