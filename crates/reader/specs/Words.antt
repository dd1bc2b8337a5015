-- What is read of a text: of a scalar its label, of a name its text.
use Rattle.std.specs.Prelude.{ℕ, ◌+◌, ◌-◌, ◌≡◌, Bool, Result, Ok, Err, eqb, if◌then◌else◌}
use Rattle.spec.specs.Outcome.{Outcome, ok, refused, ◌>>=◌}
use Rattle.spec.specs.Fault.{number_of}
use Rattle.spec.specs.declared.refusal.Fault.{Fault}
use Rattle.spec.specs.Bytes.{Bytes, Text, ascii, byte_in}
use Rattle.spec.specs.Value as Value
use Rattle.spec.specs.Value.{Label, leaf}
use Rattle.spec.specs.Read.{blanks, word_at}
use Rattle.tape.specs.Layout.{no_text, plain_string, escaped_string, numeral, null_kind, true_kind}
use Rattle.tape.specs.declared.fields.Spelling.{Spelling}
use Rattle.tape.specs.declared.fields.Name.{Name}
use Rattle.tape.specs.Cell.{Told}
use Rattle.tape.specs.Lent.{Texts}
use Rattle.table.specs.Meaning.{source_text, label_of, name_text}
use Rattle.table.specs.Sound.{NameFits, LabelFits}
use Rattle.reader.specs.declared.words.Spelled.{Spelled}

-- what holds whatever the two texts are, provided that the source names this one
abbrev pub InText : ℕ → Bytes → (Texts → Type 0) → Type 0
InText source s P = (T : Texts) → source_text T source ≡ s → P T

-- ---- spellings
-- of a literal, a container, and what has no name
abbrev pub no_spelling : Spelling
no_spelling = record { form = no_text; source = 0; start = 0; length = 0 }

abbrev pub nameless : Name
nameless = record { text = no_spelling; hash = 0 }

-- of a number from a place up to the next
abbrev pub number_spelling : ℕ → ℕ → ℕ → Spelling
number_spelling source at next = record { form = numeral; source = source; start = at; length = next - at }

-- of a string, by whether it has no escapes: its characters begin at `start` and end before the closing quotation mark; `next` is behind that
unfoldable pub string_form : Bool → ℕ
string_form plain = if plain then plain_string else escaped_string

abbrev pub string_spelling : Bool → ℕ → ℕ → ℕ → Spelling
string_spelling plain source start next = record { form = string_form plain; source = source; start = start; length = next - 1 - start }

-- ---- what they say
-- a node's kind and spelling say its label, and fit the table
pub record Labels (source : ℕ) (s : Bytes) (kind : ℕ) (label : Label) (value : Spelling) : Type 0 where
  pub told : Told value
  pub says : InText source s (λ T. label_of T kind value ≡ label)
  pub fits : InText source s (λ T. LabelFits T kind value)

-- a name says its text, and fits the table
pub record Titles (source : ℕ) (s : Bytes) (text : Text) (name : Name) : Type 0 where
  pub told : Told name.text
  pub says : InText source s (λ T. name_text T name ≡ text)
  pub fits : InText source s (λ T. NameFits T name)

-- ---- what is passed
-- the place after a byte and the blanks behind it
unfoldable pub past_separator : Bytes → ℕ → ℕ → Outcome ℕ
past_separator s mark at = byte_in s at mark mark >>= λ _. ok (blanks s (at + 1))

-- the place after a literal of a kind, from the one after its first byte
unfoldable pub literal_end : ℕ → Bytes → ℕ → Outcome ℕ
literal_end kind s at =
    if eqb kind null_kind then word_at (ascii "ull") s at else
    if eqb kind true_kind then word_at (ascii "rue") s at else word_at (ascii "alse") s at

-- what a scalar's reader answers
pub data ScalarIs (source : ℕ) (s : Bytes) (kind : ℕ) (o : Outcome (Value.Value × ℕ)) : Result Spelled Fault → Type 0 where
  scalar_read : (label : Label) (r : Spelled) → o ≡ ok (leaf label, r.next.at) → Labels source s kind label r.spelling
      → ScalarIs source s kind o (Ok r)
  scalar_refused : (e : Fault) → o ≡ refused (number_of e.refusal) e.place → ScalarIs source s kind o (Err e)
