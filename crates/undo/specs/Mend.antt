-- What takes back a value that is put in at a location, by the document before.
use Rattle.std.specs.Prelude.{ℕ, ◌≤◌, ◌%◌, ◌≡◌, true, false, List, [], ◌∷◌, ◌++◌, length, take}
use Prim.Native.Char.{code}
use Rattle.spec.specs.Outcome.{ok}
use Rattle.spec.specs.Bytes.{Bytes, Text}
use Rattle.spec.specs.Value as Value
use Rattle.spec.specs.Value.{is_array}
use Rattle.spec.specs.Pointer.{Tokens, tokens, walk}
use Rattle.spec.specs.Operation.{Operation, add_at, insert_child}
use Rattle.claims.specs.Pointers.{pointer_of}
use Rattle.claims.specs.Operations.{adding, replacing}
use Rattle.text.specs.Decode.{decode}
use Rattle.tape.specs.Layout.{values}
use Rattle.tape.specs.declared.fields.Spelling.{Spelling}
use Rattle.tape.specs.declared.fields.Name.{Name}
use Rattle.tape.specs.Lent.{Table}
use Rattle.table.specs.Meaning.{part_of}
use Rattle.pointer.specs.Tokens.{tokens_from}
use Rattle.walk.specs.Names.{Short, NamesToken}
use Rattle.walk.specs.Path.{PathIs}
use Rattle.changes.specs.Document.{Document}
use Rattle.reversal.specs.Undo.{value_at, parent_tokens, last_token, mended_in, mended}
use Rattle.undo_log.specs.Log.{Noted, ValueHeld}
use Rattle.undo_log.specs.declared.log.Log.{Log}
use Rattle.undo.specs.declared.cuts.Cut.{Cut}

-- ---- a pointer cut at its last slash
pub record Cuts (s : Bytes) (t : Text) (ts : Tokens) (r : Cut) : Type 0 where
  pub parent : decode (take r.end s) ≡ pointer_of (parent_tokens t ts)
  pub up_to_last : decode (take r.next s) ≡ pointer_of (parent_tokens t ts) ++ (code "/" ∷ [])
  pub last : tokens_from s r.next ≡ ok (last_token t ts ∷ [])
  pub order : r.end ≤ r.next
  pub inside : r.next ≤ length s

-- for a text that is no pointer, or the empty one, the answer is free
abbrev pub CutIs : Bytes → Cut → Type 0
CutIs s r = (t : Text) (ts : Tokens) → tokens (decode s) ≡ ok (t ∷ ts) → Cuts s t ts r

-- the first bytes of what a spelling names, a string with escapes or without
abbrev pub shortened : Spelling → ℕ → Spelling
shortened path n = record { form = path.form; source = path.source; start = path.start; length = n % values }

-- ---- a step of the undo is noted: the operation `o ts v`, where the table holds the document v, the path has the tokens ts, and P holds of both
abbrev pub Notes : (Tokens → Value.Value → Type 0) → (Tokens → Value.Value → Operation) → Table → Log → Spelling → Bytes → Bytes → Log → Type 0
Notes P o w log path before after r =
    (used : ℕ) (v : Value.Value) → Document w used v → Short w.texts → (ts : Tokens) → PathIs w.texts path ts → P ts v
    → (os : List Operation) → Noted log before os → Noted r after (o ts v ∷ os)

-- a value that is there
pub record Present (ts : Tokens) (v : Value.Value) : Type 0 where
  pub value : Value.Value
  pub is : walk ts v ≡ ok value

-- a location where some value can be added
pub record Addable (ts : Tokens) (v : Value.Value) : Type 0 where
  pub new : Value.Value
  pub result : Value.Value
  pub is : add_at ts new v ≡ ok result

abbrev pub NoteRemovedIs : Table → Log → Spelling → Bytes → Bytes → Log → Type 0
NoteRemovedIs = Notes Present (λ ts v. adding ts (value_at ts v))

abbrev pub NoteReplacedIs : Table → Log → Spelling → Bytes → Bytes → Log → Type 0
NoteReplacedIs = Notes Present (λ ts v. replacing ts (value_at ts v))

abbrev pub MendIs : Table → Log → Spelling → Bytes → Bytes → Log → Type 0
MendIs = Notes Addable mended

-- below the root
abbrev pub MendBelowIs : Table → Log → Spelling → Bytes → Bytes → Log → Type 0
MendBelowIs w log path before after r =
    (used : ℕ) (v : Value.Value) → Document w used v → Short w.texts → (t : Text) (ts : Tokens) → PathIs w.texts path (t ∷ ts) → Addable (t ∷ ts) v
    → (os : List Operation) → Noted log before os → Noted r after (mended (t ∷ ts) v ∷ os)

-- in a parent that is held in a row, by the last token
pub record Site (w : Table) (path : Spelling) (next row : ℕ) (name : Name) (t : Text) (ts : Tokens) (p : Value.Value) : Type 0 where
  pub short : Short w.texts
  pub whole : PathIs w.texts path (t ∷ ts)
  pub up_to_last : decode (take next (part_of w.texts path)) ≡ pointer_of (parent_tokens t ts) ++ (code "/" ∷ [])
  pub inside : next ≤ length (part_of w.texts path)
  pub named : NamesToken w.texts name (last_token t ts)
  pub parent : ValueHeld w row p
  pub new : Value.Value
  pub result : Value.Value
  pub addable : insert_child new (last_token t ts) p ≡ ok result

abbrev pub MendIn : (Value.Value → Type 0) → Table → Log → Spelling → ℕ → ℕ → Name → Bytes → Bytes → Log → Type 0
MendIn Q w log path next parent name before after r =
    (t : Text) (ts : Tokens) (p : Value.Value) → Site w path next parent name t ts p → Q p
    → (os : List Operation) → Noted log before os → Noted r after (mended_in (parent_tokens t ts) (last_token t ts) p ∷ os)

abbrev pub MendChildIs : Table → Log → Spelling → ℕ → ℕ → Name → Bytes → Bytes → Log → Type 0
MendChildIs = MendIn (λ p. Unit {0})

abbrev pub MendElementIs : Table → Log → Spelling → ℕ → ℕ → Name → Bytes → Bytes → Log → Type 0
MendElementIs = MendIn (λ p. is_array p.label ≡ true)

abbrev pub MendMemberIs : Table → Log → Spelling → ℕ → ℕ → Name → Bytes → Bytes → Log → Type 0
MendMemberIs = MendIn (λ p. is_array p.label ≡ false)
