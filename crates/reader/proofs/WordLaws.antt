-- What the spellings that are read of a text say: each names the bytes that were read.
use Prim.Native.Nat.{ℕ, zero, suc, ◌+◌, ◌-◌, ◌≤◌, ◌<◌}
use mathlib.Core.Path.{◌≡◌, refl, sym, ◌∙◌, ap}
use mathlib.Core.Bool.{Bool, true, false}
use mathlib.Core.List.{[]}
use native.Mathlib.Omega.{arith}
use lib.Dec.{eqb}
use lib.ListN.{take, drop}
use Rattle.std.specs.Prelude.{Ok, Err, if◌then◌else◌}
use Rattle.spec.specs.Outcome.{ok, refused, ◌>>=◌}
use Rattle.spec.specs.Fault.{number_of}
use Rattle.spec.specs.declared.refusal.Fault.{Fault}
use Rattle.spec.specs.Bytes.{Bytes, Text}
use Rattle.spec.specs.Numbers.{number}
use Rattle.spec.specs.Strings.{string}
use Rattle.spec.specs.Value.{Label, leaf}
use Rattle.spec.specs.Read.{literal_value, number_value, string_value}
use Rattle.lexer.specs.Hash.{hash_from, hash}
use Rattle.lexer.specs.Names.{no_backslash, part}
use Rattle.lexer.specs.declared.cursor.Cursor.{Cursor}
use Rattle.lexer.proofs.NameLaws.{QuotedRead, NameRead}
use Rattle.lexer.proofs.StringLaws.{Closed, string-ok_closed}
use Rattle.text.specs.Decode.{decode, text_from, text_of}
use Rattle.text.proofs.DecodeLaws.{decode-string}
use Rattle.text.proofs.PlainLaws.{string-same}
use Rattle.tape.specs.Layout.{forms, sources, plain_string, escaped_string, numeral, number_kind, string_kind}
use Rattle.tape.specs.declared.fields.Spelling.{Spelling}
use Rattle.tape.specs.Lent.{Texts}
use Rattle.table.specs.Meaning.{part_of, spelled, label_of, short_hash}
use Rattle.table.specs.Sound.{Verbatim}
use Rattle.table.proofs.NumberLaws.{number_fits, other_fits}
use Rattle.reader.specs.Begins.{scalar_of}
use Rattle.reader.specs.Words.{InText, no_spelling, nameless, number_spelling, string_form, string_spelling, Labels, Titles}
use Rattle.reader.specs.Words.{literal_end, ScalarIs, scalar_read, scalar_refused}

-- ---- where a string ends, and a name
pub quoted_closed : {s : Bytes} {at next : ℕ} {plain : Bool} → QuotedRead s at next plain → Closed s (at + 1) next
quoted_closed {s} {at} {next} r = string-ok_closed s at (r.text, next) r.reads

pub name_closed : {s : Bytes} {at next h : ℕ} {plain : Bool} → NameRead s at next h plain → Closed s (at + 1) next
name_closed {s} {at} {next} r = string-ok_closed s at (r.text, next) r.reads

-- ---- a spelling names its part of the text
part_spelling : (form source start count : ℕ) (s : Bytes)
    → InText source s (λ T. part_of T (record { form = form; source = source; start = start; length = count }) ≡ take count (drop start s))
unfolding part_of
part_spelling form source start count s T e = rw e

form-string : (plain : Bool) → string_form plain < forms
unfolding string_form
form-string false = omega arith
form-string true = omega arith

-- either form of a string is decoded
text-string : (plain : Bool) (bytes : Bytes) → text_of (string_form plain) bytes ≡ decode bytes
unfolding text_of text_from decode string_form
text-string false bytes = refl
text-string true bytes = refl

-- it is one of the two
form_bounds : (plain : Bool) → (plain_string ≤ string_form plain) × (string_form plain ≤ escaped_string)
unfolding string_form
form_bounds true = (omega arith, omega arith)
form_bounds false = (omega arith, omega arith)

is_plain : (plain : Bool) → string_form plain ≡ plain_string → plain ≡ true
unfolding string_form
is_plain true e = refl
is_plain false e = absurd (omega arith)

-- ---- a string
module _ (s : Bytes) (at : ℕ) (cs : Text) (next : ℕ) (reads : string s at ≡ ok (cs, next)) (source : ℕ) (source< : source < sources) (plain : Bool)
    (told : plain ≡ no_backslash (part s (at + 1) (next - 1))) where
  abbrev spelling : Spelling
  spelling = string_spelling plain source (at + 1) next

  string-part : InText source s (λ T. part_of T spelling ≡ part s (at + 1) (next - 1))
  unfolding part
  string-part = part_spelling (string_form plain) source (at + 1) (next - 1 - (at + 1)) s

  string-says : InText source s (λ T. spelled T spelling ≡ cs)
  unfolding spelled
  string-says T e = rw (string-part T e, text-string plain (part s (at + 1) (next - 1))) (decode-string s at cs next reads)

  string-verbatim : InText source s (λ T. Verbatim T spelling)
  string-verbatim T e =
      record { is = λ f. rw (string-says T e, string-part T e) (string-same s at cs next reads (sym told ∙ is_plain plain f)) }

  string-labels : Labels source s string_kind (Label.string cs) spelling
  unfolding label_of
  string-labels =
      record {
        told = record { form = form-string plain; source = source< };
        says = λ T e. rw (string-says T e);
        fits = λ T e.
            record {
              number = other_fits (λ k. omega arith);
              string = record { form = λ k. form_bounds plain };
              verbatim = string-verbatim T e;
            };
      }

  -- ---- a name
  string-titles : (h : ℕ) → h ≡ short_hash (hash cs) → Titles source s cs (record { text = spelling; hash = h })
  string-titles h is =
      record {
        told = record { form = form-string plain; source = source< };
        says = string-says;
        fits = λ T e. record { hashed = record { is = is ∙ ap (λ t. short_hash (hash t)) (sym (string-says T e)) }; verbatim = string-verbatim T e };
      }

-- of a name that was read
pub read_titles : {s : Bytes} {at next h : ℕ} {plain : Bool} (source : ℕ) {spelling : Spelling} {short : ℕ} → source < sources
    → (r : NameRead s at next h plain) → spelling ≡ string_spelling plain source (at + 1) next → short ≡ short_hash h
    → Titles source s r.text (record { text = spelling; hash = short })
read_titles {s} {at} {next} {h} {plain} source {spelling} {short} source< r is e =
    rw is (string-titles s at r.text next r.reads source source< plain r.written short (e ∙ ap short_hash r.hashed))

-- nothing: the name of the root, and of an array's element
pub no_titles : (source : ℕ) (s : Bytes) → Titles source s [] nameless
unfolding spelled text_of text_from hash hash_from short_hash
no_titles source s =
    record {
      told = record { form = omega arith; source = omega arith };
      says = λ T t. refl;
      fits = λ T t. record { hashed = record { is = refl }; verbatim = record { is = λ e. absurd (omega arith) } };
    }

-- ---- a number
module _ (s : Bytes) (at next : ℕ) (reads : number s at ≡ ok next) (source : ℕ) (source< : source < sources) where
  number-part : InText source s (λ T. part_of T (number_spelling source at next) ≡ take (next - at) (drop at s))
  number-part = part_spelling numeral source at (next - at) s

  number-labels : Labels source s number_kind (Label.number (take (next - at) (drop at s))) (number_spelling source at next)
  unfolding label_of
  number-labels =
      record {
        told = record { form = omega arith; source = source< };
        says = λ T e. rw (number-part T e);
        fits = λ T e.
            record {
              number = number_fits s at next reads (number-part T e);
              string = record { form = λ k. absurd (omega arith) };
              verbatim = record { is = λ f. absurd (omega arith) };
            };
      }

-- ---- a node without a text: a literal, or a container
pub textless_labels : (source : ℕ) (s : Bytes) (kind : ℕ) (label : Label) → (kind ≡ number_kind → ⊥) → (kind ≡ string_kind → ⊥)
    → ((T : Texts) → label_of T kind no_spelling ≡ label) → Labels source s kind label no_spelling
textless_labels source s kind label no_number no-string is =
    record {
      told = record { form = omega arith; source = omega arith };
      says = λ T e. is T;
      fits = λ T e.
          record {
            number = other_fits no_number;
            string = record { form = λ k. absurd (no-string k) };
            verbatim = record { is = λ f. absurd (omega arith) };
          };
    }

-- ---- each way out of the readers of scalars
module _ (source : ℕ) (s : Bytes) (at : ℕ) where
  pub number_read : (next : Cursor) (value : Spelling) → source < sources → number s at ≡ ok next.at → value ≡ number_spelling source at next.at
      → ScalarIs source s number_kind (number_value s at) (Ok (record { next = next; spelling = value }))
  unfolding number_value ◌>>=◌
  number_read next value source< e is =
      rw is (scalar_read (Label.number (take (next.at - at) (drop at s))) (record { next = next; spelling = number_spelling source at next.at }) (rw e) (number-labels s at next.at e source source<))

  pub number-refused : (x : Fault) → number s at ≡ refused (number_of x.refusal) x.place → ScalarIs source s number_kind (number_value s at) (Err x)
  unfolding number_value ◌>>=◌
  number-refused x e = scalar_refused x (rw e)

  pub string-read : (next : Cursor) (plain : Bool) (value : Spelling) → source < sources → QuotedRead s at next.at plain
      → value ≡ string_spelling plain source (at + 1) next.at
      → ScalarIs source s string_kind (string_value s at) (Ok (record { next = next; spelling = value }))
  unfolding string_value ◌>>=◌
  string-read next plain value source< r is =
      rw is
      (scalar_read (Label.string r.text) (record { next = next; spelling = string_spelling plain source (at + 1) next.at }) (rw r.reads)
      (string-labels s at r.text next.at r.reads source source< plain r.written))

  pub string-refused : (x : Fault) → string s at ≡ refused (number_of x.refusal) x.place → ScalarIs source s string_kind (string_value s at) (Err x)
  unfolding string_value ◌>>=◌
  string-refused x e = scalar_refused x (rw e)

  -- a literal's label is its kind
  literal_label : ℕ → Label
  literal_label kind = if eqb kind 0 then Label.null_literal else if eqb kind 1 then Label.true_literal else Label.false_literal

  by_literal : (kind : ℕ) → kind < number_kind → scalar_of kind s at ≡ (literal_end kind s (at + 1) >>= λ next. ok (leaf (literal_label kind), next))
  unfolding scalar_of literal_end literal_label literal_value
  by_literal zero k = refl
  by_literal (suc zero) k = refl
  by_literal (suc (suc zero)) k = refl
  by_literal (suc (suc (suc kind))) k = absurd (omega arith)

  literal-labels : (kind : ℕ) → kind < number_kind → Labels source s kind (literal_label kind) no_spelling
  unfolding literal_label label_of
  literal-labels zero k = textless_labels source s 0 _ (λ h. omega arith) (λ h. omega arith) (λ T. refl)
  literal-labels (suc zero) k = textless_labels source s 1 _ (λ h. omega arith) (λ h. omega arith) (λ T. refl)
  literal-labels (suc (suc zero)) k = textless_labels source s 2 _ (λ h. omega arith) (λ h. omega arith) (λ T. refl)
  literal-labels (suc (suc (suc kind))) k = absurd (omega arith)

  pub literal_read : (kind : ℕ) (next : Cursor) (value : Spelling) → kind < number_kind → value ≡ no_spelling → literal_end kind s (at + 1) ≡ ok next.at
      → ScalarIs source s kind (scalar_of kind s at) (Ok (record { next = next; spelling = value }))
  unfolding ◌>>=◌
  literal_read kind next value k is e = rw is (scalar_read (literal_label kind) (record { next = next; spelling = no_spelling }) (by_literal kind k ∙ rw e) (literal-labels kind k))

  pub literal-refused : (kind : ℕ) (x : Fault) → kind < number_kind → literal_end kind s (at + 1) ≡ refused (number_of x.refusal) x.place
      → ScalarIs source s kind (scalar_of kind s at) (Err x)
  unfolding ◌>>=◌
  literal-refused kind x k e = scalar_refused x (by_literal kind k ∙ rw e)
