-- The pieces that a value's text is put together from, by the fields of the nodes. For strings that are verbatim they are those of the definitions
-- (proofs/PieceLaws).
use Rattle.std.specs.Prelude.{ℕ, Bool, [], ◌∷◌, ◌++◌, eqb, if◌then◌else◌}
use Prim.Native.Char.{code}
use Rattle.spec.specs.Bytes.{Bytes, ascii}
use Rattle.spec.specs.Write.{comma}
use Rattle.text.specs.Written.{written}
use Rattle.tape.specs.Layout.{true_kind, false_kind, number_kind, string_kind}
use Rattle.tape.specs.declared.fields.Spelling.{Spelling}
use Rattle.tape.specs.declared.fields.Name.{Name}
use Rattle.tape.specs.Lent.{Texts}
use Rattle.table.specs.Meaning.{part_of}

-- a string between its quotation marks
unfoldable pub string_bytes : Texts → Spelling → Bytes
string_bytes T spelling = (code "\"" ∷ []) ++ written spelling.form (part_of T spelling) ++ (code "\"" ∷ [])

unfoldable pub literal_bytes : ℕ → Bytes
literal_bytes kind = if eqb kind true_kind then ascii "true" else if eqb kind false_kind then ascii "false" else ascii "null"

-- a value that is no container
unfoldable pub scalar_bytes : Texts → ℕ → Spelling → Bytes
scalar_bytes T kind value =
    if eqb kind string_kind then string_bytes T value else
    if eqb kind number_kind then part_of T value else literal_bytes kind

-- the brackets of an object, or of an array
unfoldable pub opening_bracket : Bool → ℕ
opening_bracket object = if object then code "{" else code "["

unfoldable pub closing_bracket : Bool → ℕ
closing_bracket object = if object then code "}" else code "]"

-- a member's name and the colon; an array's element has none
unfoldable pub name_bytes : Texts → Bool → Name → Bytes
name_bytes T object name = if object then string_bytes T name.text ++ (code ":" ∷ []) else []

-- what stands before a value in a container
unfoldable pub prefix_bytes : Texts → Bool → Bool → Name → Bytes
prefix_bytes T object first name = comma first ++ name_bytes T object name
