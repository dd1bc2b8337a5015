-- A pointer's token as a name, by which a member is found, and which a new member has.
use Rattle.std.specs.Prelude.{ℕ, ◌+◌, ◌%◌, ◌<◌, ◌≤◌, ◌≡◌, length, eqb, ltb, if◌then◌else◌}
use Rattle.spec.specs.Bytes.{Bytes, Text}
use Rattle.lexer.specs.Hash.{hash}
use Rattle.text.specs.Decode.{text_of}
use Rattle.tape.specs.Layout as Layout
use Rattle.tape.specs.Lent.{Texts}
use Rattle.tape.specs.declared.fields.Spelling.{Spelling}
use Rattle.tape.specs.declared.fields.Name.{Name}
use Rattle.tape.specs.Cell.{Told}
use Rattle.table.specs.Meaning.{part_of, name_text, short_hash, Hashed}
use Rattle.pointer.specs.Tokens.{token_bytes}
use Rattle.pointer.specs.declared.answers.Token.{Token}

-- a name that spells a token, and has the hash of its text; a node's tags can tell it
pub record IsToken (T : Texts) (name : Name) : Type 0 where
  pub form : name.text.form ≡ Layout.token
  pub told : Told name.text
  pub hashed : Hashed T name

pub record NamesToken (T : Texts) (name : Name) (text : Text) : Type 0 where
  pub token : IsToken T name
  pub says : name_text T name ≡ text

-- texts so short that a spelling can say every place in them
pub record Short (T : Texts) : Type 0 where
  pub document : length T.document < Layout.values
  pub patch : length T.patch < Layout.values

-- the name without a text
abbrev pub no_name : Name
no_name = record { text = record { form = Layout.no_text; source = Layout.in_document; start = 0; length = 0 }; hash = 0 }

-- which text a spelling names: 0 the document, any other number the patch
unfoldable pub source_of : Spelling → ℕ
source_of s = if eqb s.source Layout.in_document then Layout.in_document else Layout.in_patch

-- a token's bytes where they stand, and the hash of their text. A number that is too large for its field loses its upper bits.
abbrev pub name_at : Spelling → ℕ → Bytes → Name
name_at path at bytes =
    record {
      text =
          record {
            form = Layout.token;
            source = source_of path;
            start = (path.start + at) % Layout.values;
            length = length bytes % Layout.values;
          };
      hash = short_hash (hash (text_of Layout.token bytes));
    }

-- the name of the token that begins at a place of the pointer that a path spells; behind the pointer's end no token begins
unfoldable pub token_name : Texts → Spelling → ℕ → Token → Name
token_name T path at t = if ltb (length (part_of T path)) at then no_name else name_at path at (token_bytes (part_of T path) at t)

-- it names the token, where the texts are short
pub record TokenNameIs (T : Texts) (path : Spelling) (at : ℕ) (t : Token) (r : Name) : Type 0 where
  pub is : r ≡ token_name T path at t
  pub names : Short T → at ≤ length (part_of T path) → NamesToken T r (text_of Layout.token (token_bytes (part_of T path) at t))
