-- Writing a value: SPECIFICATION 8. The text is compact, without blanks, members in order. A number is written as its source text.
use Rattle.std.specs.Prelude.{ℕ, ◌+◌, ◌-◌, ◌/◌, ◌%◌, [], ◌∷◌, ◌++◌, Bool, true, false, leb, ltb, eqb, if◌then◌else◌}
use Prim.Native.Char.{code}
use Rattle.spec.specs.Bytes.{Bytes, Text, ascii}
use Rattle.spec.specs.Forest.{none, tree}
use Rattle.spec.specs.Value as Value
use Rattle.spec.specs.Value.{Label, Members, is_object}

-- the UTF-8 of a code point: RFC 3629, section 3, its table
unfoldable pub utf8 : ℕ → Bytes
utf8 c =
    if ltb c 0x80 then c ∷ [] else
    if ltb c 0x800 then (0xC0 + c / 64) ∷ (0x80 + c % 64) ∷ [] else
    if ltb c 0x1_0000 then (0xE0 + c / 4096) ∷ (0x80 + c / 64 % 64) ∷ (0x80 + c % 64) ∷ [] else
    (0xF0 + c / 262144) ∷ (0x80 + c / 4096 % 64) ∷ (0x80 + c / 64 % 64) ∷ (0x80 + c % 64) ∷ []

-- a hexadecimal digit, in lower case
unfoldable pub hex_digit : ℕ → ℕ
hex_digit n = if ltb n 10 then code "0" + n else code "a" + (n - 10)

-- A character of a string, SPECIFICATION 8.3: `"` and `\` are escaped, the controls as \b \t \n \f \r or \u00 with two lower-case hex
-- digits, all else raw UTF-8.
unfoldable pub write_character : ℕ → Bytes
write_character c =
    if eqb c (code "\"") then ascii "\\\"" else
    if eqb c (code "\\") then ascii "\\\\" else
    if leb 0x20 c then utf8 c else
    if eqb c 0x08 then ascii "\\b" else
    if eqb c 0x09 then ascii "\\t" else
    if eqb c 0x0A then ascii "\\n" else
    if eqb c 0x0C then ascii "\\f" else
    if eqb c 0x0D then ascii "\\r" else ascii "\\u00" ++ (hex_digit (c / 16) ∷ hex_digit (c % 16) ∷ [])

unfoldable pub write_characters : Text → Bytes
write_characters [] = []
write_characters (c ∷ cs) = write_character c ++ write_characters cs

unfoldable pub write_string : Text → Bytes
write_string cs = code "\"" ∷ (write_characters cs ++ (code "\"" ∷ []))

-- a scalar whole, or a container's opening bracket
unfoldable pub opening : Label → Bytes
opening Label.null_literal = ascii "null"
opening Label.true_literal = ascii "true"
opening Label.false_literal = ascii "false"
opening Label.array = ascii "["
opening Label.object = ascii "{"
opening (Label.number t) = t
opening (Label.string cs) = write_string cs

-- a container's closing bracket
unfoldable pub closing : Label → Bytes
closing Label.null_literal = []
closing Label.true_literal = []
closing Label.false_literal = []
closing Label.array = ascii "]"
closing Label.object = ascii "}"
closing (Label.number t) = []
closing (Label.string cs) = []

-- a member's name with its colon; an array's element has none
unfoldable pub write_name : Bool → Text → Bytes
write_name object name = if object then write_string name ++ ascii ":" else []

-- a comma before every value of a container but the first
unfoldable pub comma : Bool → Bytes
comma first = if first then [] else ascii ","

-- the values of a container from one on; the second argument says whether that one is the first
unfoldable pub write_items : Bool → Bool → Members → Bytes
write_items object first none = []
write_items object first (tree e kids rest) =
    comma first ++ write_name object e.name ++ opening e.label
    ++ write_items (is_object e.label) true kids ++ closing e.label ++ write_items object false rest

unfoldable pub write : Value.Value → Bytes
write v = opening v.label ++ write_items (is_object v.label) true v.kids ++ closing v.label
