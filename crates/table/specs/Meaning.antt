-- What the node table means: a spelling is a text, a cell an entry of the definitions, and a forest of cells a forest of entries.
-- SPECIFICATION 3.7: a string's bytes stand in the document or in the patch. "Nothing is copied out of the two texts until it is written."
use Rattle.std.specs.Prelude.{ℕ, ◌%◌, ◌≡◌, eqb, take, drop, if◌then◌else◌}
use Rattle.spec.specs.Bytes.{Bytes, Text}
use Rattle.spec.specs.Forest.{Forest}
use Rattle.spec.specs.Value as Value
use Rattle.spec.specs.Value.{Label, Entry, Members}
use Rattle.lexer.specs.Hash.{hash}
use Rattle.text.specs.Decode.{text_of}
use Rattle.tape.specs.declared.fields.Spelling.{Spelling}
use Rattle.tape.specs.declared.fields.Name.{Name}
use Rattle.tape.specs.declared.fields.Cell.{Cell}
use Rattle.tape.specs.Map.{map_forest}
use Rattle.tape.specs.Lent.{Texts}

-- the text that a source names: 0 the document, any other number the patch
unfoldable pub source_text : Texts → ℕ → Bytes
source_text texts source = if eqb source 0 then texts.document else texts.patch

-- the bytes that a spelling names
unfoldable pub part_of : Texts → Spelling → Bytes
part_of texts spelling = take spelling.length (drop spelling.start (source_text texts spelling.source))

-- the text that it spells
unfoldable pub spelled : Texts → Spelling → Text
spelled texts spelling = text_of spelling.form (part_of texts spelling)

-- a label by its kind, which is its tag, and its text
unfoldable pub label_of : Texts → ℕ → Spelling → Label
label_of texts kind value =
    if eqb kind 1 then Label.true_literal else
    if eqb kind 2 then Label.false_literal else
    if eqb kind 3 then Label.number (part_of texts value) else
    if eqb kind 4 then Label.string (spelled texts value) else
    if eqb kind 5 then Label.array else
    if eqb kind 6 then Label.object else Label.null_literal

abbrev pub name_text : Texts → Name → Text
name_text texts name = spelled texts name.text

abbrev pub entry_of : Texts → Cell → Entry
entry_of texts c = record { name = name_text texts c.name; label = label_of texts c.kind c.value }

abbrev pub members : Texts → Forest Cell → Members
members texts f = map_forest (entry_of texts) f

-- the value that a node is
abbrev pub meant : Texts → Cell → Forest Cell → Value.Value
meant texts c kids = record { label = label_of texts c.kind c.value; kids = members texts kids }

-- the 16 bits of a hash that a node has room for: the lowest, since the last character changes them
unfoldable pub short_hash : ℕ → ℕ
short_hash h = h % 65_536

-- a name has the hash of the text that it spells
pub record Hashed (texts : Texts) (name : Name) : Type 0 where
  pub is : name.hash ≡ short_hash (hash (name_text texts name))
