-- How long the pieces of a text are, and how long they are at most.
use Rattle.std.specs.Prelude.{if◌then◌else◌}
use Prim.Native.Nat.{ℕ, ◌+◌, ◌≤◌}
use native.Mathlib.Omega.{arith}
use mathlib.Core.Path.{◌≡◌, sym, ap, ap₂, ◌∙◌}
use mathlib.Core.Bool.{Bool, true, false}
use mathlib.Core.List.{[], ◌∷◌}
use lib.Dec.{eqb}
use lib.ListN.{length, drop, length-append, length-take}
use Rattle.spec.specs.Bytes.{Bytes, ascii}
use Rattle.spec.specs.Write.{comma}
use Rattle.text.specs.Written.{written}
use Rattle.text.proofs.LengthLaws.{written_short}
use Rattle.tape.specs.Layout.{string_kind, number_kind, true_kind, false_kind}
use Rattle.tape.specs.declared.fields.Spelling.{Spelling}
use Rattle.tape.specs.declared.fields.Name.{Name}
use Rattle.table.specs.Meaning.{source_text, part_of}
use Rattle.writer.specs.Pieces.{string_bytes, literal_bytes, scalar_bytes, name_bytes, prefix_bytes}
use Rattle.writer.proofs.PieceLaws.{name-member}
use Rattle.tape.specs.Lent.{Texts}

-- ---- pieces
pub comma_short : (first : Bool) → length (comma first) ≤ 1
unfolding comma ascii
comma_short true = omega arith
comma_short false = omega arith

literal_short : (kind : ℕ) → length (literal_bytes kind) ≤ 5
unfolding literal_bytes ascii
literal_short kind = go (eqb kind true_kind) (eqb kind false_kind)
  where
    go : (a b : Bool) → length (if a then ascii "true" else if b then ascii "false" else ascii "null") ≤ 5
    go true b = omega arith
    go false true = omega arith
    go false false = omega arith

module _ (T : Texts) where
  -- a part is no longer than its spelling says
  part_short : (spelling : Spelling) → length (part_of T spelling) ≤ spelling.length
  unfolding part_of
  part_short spelling = omega (arith, length-take spelling.length (drop spelling.start (source_text T spelling.source)))

  string-length : (spelling : Spelling) → length (string_bytes T spelling) ≡ length (written spelling.form (part_of T spelling)) + 2
  unfolding string_bytes
  string-length spelling = simp length-append (omega arith)

  pub string-counted : (spelling : Spelling) {form n : ℕ} {s : Bytes} → n ≡ length (written form s) → form ≡ spelling.form → s ≡ part_of T spelling
      → n + 2 ≡ length (string_bytes T spelling)
  string-counted spelling {form} {n} {s} e f h = ap (λ m. m + 2) (e ∙ ap₂ (λ m t. length (written m t)) f h) ∙ sym (string-length spelling)

  pub string-short : (spelling : Spelling) → length (string_bytes T spelling) ≤ spelling.length + 2
  string-short spelling = omega (arith, string-length spelling, part_short spelling, written_short spelling.form (part_of T spelling))

  pub scalar_short : (kind : ℕ) (value : Spelling) → length (scalar_bytes T kind value) ≤ value.length + 5
  unfolding scalar_bytes
  scalar_short kind value = go (eqb kind string_kind) (eqb kind number_kind)
    where
      go : (a b : Bool) → length (if a then string_bytes T value else if b then part_of T value else literal_bytes kind) ≤ value.length + 5
      go true b = omega (arith, string-short value)
      go false true = omega (arith, part_short value)
      go false false = omega (arith, literal_short kind)

  pub name_short : (object : Bool) (name : Name) → length (name_bytes T object name) ≤ name.text.length + 3
  unfolding name_bytes
  name_short true name = simp length-append (omega (arith, string-short name.text))
  name_short false name = omega arith

  pub name_counted : (object : Bool) (name : Name) {spelling : Spelling} {n : ℕ} → object ≡ true → spelling ≡ name.text
      → n ≡ length (string_bytes T spelling) → n + 1 ≡ length (name_bytes T object name)
  name_counted object name {spelling} {n} e f h = ap (λ m. m + 1) h ∙ sym
      (ap length (name-member T object name e f) ∙ length-append (string_bytes T spelling) (58 ∷ []))

  pub prefix_length : (object first : Bool) (name : Name) → length (prefix_bytes T object first name) ≡ length (comma first) + length (name_bytes T object name)
  unfolding prefix_bytes
  prefix_length object first name = length-append (comma first) (name_bytes T object name)

  pub prefix_short : (object first : Bool) (name : Name) → length (prefix_bytes T object first name) ≤ name.text.length + 4
  prefix_short object first name = omega (arith, prefix_length object first name, comma_short first, name_short object name)
