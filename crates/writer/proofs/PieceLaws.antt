-- The pieces of a value's text are those of the definitions, where its strings are verbatim.
use Rattle.std.specs.Prelude.{if◌then◌else◌}
use Prim.Native.Nat.{ℕ, zero, suc, ◌≤◌, ◌<◌}
use Prim.Native.Char.{code}
use native.Mathlib.Omega.{arith}
use mathlib.Core.Path.{◌≡◌, refl, sym, ap}
use mathlib.Core.Bool.{Bool, true, false}
use mathlib.Core.List.{[], ◌∷◌, ◌++◌, append_assoc, append-nil}
use lib.Dec.{eqb}
use borrow.Author.Tests.{eqb-true, eq-eqb, ne_eqb}
use Rattle.spec.specs.Bytes.{Bytes, ascii}
use Rattle.spec.specs.Forest.{Forest, none, tree}
use Rattle.spec.specs.Write.{write_characters, write_string, opening, closing, write_name, comma, write_items, write}
use Rattle.text.specs.Decode.{text_of}
use Rattle.text.specs.Written.{written}
use Rattle.tape.specs.Layout.{number_kind, string_kind, array_kind, object_kind}
use Rattle.tape.specs.declared.fields.Spelling.{Spelling}
use Rattle.tape.specs.declared.fields.Name.{Name}
use Rattle.tape.specs.declared.fields.Cell.{Cell}
use Rattle.tape.specs.Cell.{Fit}
use Rattle.tape.specs.Map.{map_forest}
use Rattle.table.specs.Meaning.{part_of, spelled, label_of, name_text, members, meant}
use Rattle.table.specs.Sound.{Verbatim}
use Rattle.table.proofs.MeaningLaws.{is_object_label}
use Rattle.writer.specs.Pieces.{string_bytes, literal_bytes, scalar_bytes, opening_bracket, closing_bracket, name_bytes, prefix_bytes}
use Rattle.tape.specs.Lent.{Texts}

-- ---- the pieces, as the code tells them apart
module _ (T : Texts) where
  pub string-pieces : (spelling : Spelling) {form : ℕ} {s : Bytes} → form ≡ spelling.form → s ≡ part_of T spelling
      → string_bytes T spelling ≡ (code "\"" ∷ []) ++ written form s ++ (code "\"" ∷ [])
  unfolding string_bytes
  string-pieces spelling e h = rw (e, h)

  -- without escapes it is written as it stands
  pub plain_pieces : (spelling : Spelling) {s : Bytes} → spelling.form ≡ 1 → s ≡ part_of T spelling → string_bytes T spelling ≡ (0x22 ∷ []) ++ s ++ (0x22 ∷ [])
  unfolding string_bytes written
  plain_pieces spelling e h = rw (eq-eqb spelling.form 1 e, h)

  module _ (kind : ℕ) (value : Spelling) where
    pub scalar-string : kind ≡ string_kind → scalar_bytes T kind value ≡ string_bytes T value
    unfolding scalar_bytes
    scalar-string e = rw (eq-eqb kind string_kind e)

    module _ (other : kind ≡ string_kind → ⊥) where
      pub scalar-number : kind ≡ number_kind → scalar_bytes T kind value ≡ part_of T value
      unfolding scalar_bytes
      scalar-number e = rw (ne_eqb kind string_kind other, eq-eqb kind number_kind e)

      pub scalar_literal : (kind ≡ number_kind → ⊥) → scalar_bytes T kind value ≡ literal_bytes kind
      unfolding scalar_bytes
      scalar_literal e = rw (ne_eqb kind string_kind other, ne_eqb kind number_kind e)

  pub name-member : (object : Bool) (name : Name) {spelling : Spelling} → object ≡ true → spelling ≡ name.text
      → name_bytes T object name ≡ string_bytes T spelling ++ (code ":" ∷ [])
  unfolding name_bytes
  name-member object name e h = rw (e, h)

  pub name_element : (object : Bool) (name : Name) → object ≡ false → name_bytes T object name ≡ []
  unfolding name_bytes
  name_element object name e = rw e

  pub prefix_pieces : (object first : Bool) (name : Name) → prefix_bytes T object first name ≡ comma first ++ name_bytes T object name
  unfolding prefix_bytes
  prefix_pieces object first name = refl

module _ (T : Texts) where
  -- ---- strings
  written_verbatim : (spelling : Spelling) → Verbatim T spelling → written spelling.form (part_of T spelling) ≡ write_characters (spelled T spelling)
  unfolding written spelled
  written_verbatim spelling v = go (eqb spelling.form 1) refl
    where
      go : (plain : Bool) → eqb spelling.form 1 ≡ plain
          → (if plain then part_of T spelling else write_characters (text_of spelling.form (part_of T spelling))) ≡ write_characters
          (text_of spelling.form (part_of T spelling))
      go true e = sym (v.is (eqb-true spelling.form 1 e))
      go false e = refl

  pub string-verbatim : (spelling : Spelling) → Verbatim T spelling → string_bytes T spelling ≡ write_string (spelled T spelling)
  unfolding string_bytes write_string
  string-verbatim spelling v = ap (λ b. code "\"" ∷ (b ++ (code "\"" ∷ []))) (written_verbatim spelling v)

  pub prefix_verbatim : (object first : Bool) (name : Name) → Verbatim T name.text
      → prefix_bytes T object first name ≡ comma first ++ write_name object (name_text T name)
  unfolding prefix_bytes name_bytes write_name ascii
  prefix_verbatim true first name v = ap (λ b. comma first ++ (b ++ (code ":" ∷ []))) (string-verbatim name.text v)
  prefix_verbatim false first name v = refl

  -- ---- a label, by its kind
  opening-scalar : (kind : ℕ) (value : Spelling) → kind < array_kind → Verbatim T value → opening (label_of T kind value) ≡ scalar_bytes T kind value
  unfolding opening label_of scalar_bytes literal_bytes
  opening-scalar zero value h v = refl
  opening-scalar (suc zero) value h v = refl
  opening-scalar (suc (suc zero)) value h v = refl
  opening-scalar (suc (suc (suc zero))) value h v = refl
  opening-scalar (suc (suc (suc (suc zero)))) value h v = sym (string-verbatim value v)
  opening-scalar (suc (suc (suc (suc (suc k))))) value h v = absurd (omega arith)

  closing-scalar : (kind : ℕ) (value : Spelling) → kind < array_kind → closing (label_of T kind value) ≡ []
  unfolding closing label_of
  closing-scalar zero value h = refl
  closing-scalar (suc zero) value h = refl
  closing-scalar (suc (suc zero)) value h = refl
  closing-scalar (suc (suc (suc zero))) value h = refl
  closing-scalar (suc (suc (suc (suc zero)))) value h = refl
  closing-scalar (suc (suc (suc (suc (suc k))))) value h = absurd (omega arith)

  module _ (value : Spelling) where
    opening-container : (kind : ℕ) → array_kind ≤ kind → kind ≤ object_kind → opening (label_of T kind value) ≡ opening_bracket (eqb kind object_kind) ∷ []
    unfolding opening label_of opening_bracket ascii
    opening-container (suc (suc (suc (suc (suc zero))))) h l = refl
    opening-container (suc (suc (suc (suc (suc (suc zero)))))) h l = refl
    opening-container (suc (suc (suc (suc (suc (suc (suc k))))))) h l = absurd (omega arith)
    opening-container zero h l = absurd (omega arith)
    opening-container (suc zero) h l = absurd (omega arith)
    opening-container (suc (suc zero)) h l = absurd (omega arith)
    opening-container (suc (suc (suc zero))) h l = absurd (omega arith)
    opening-container (suc (suc (suc (suc zero)))) h l = absurd (omega arith)

    closing-container : (kind : ℕ) → array_kind ≤ kind → kind ≤ object_kind → closing (label_of T kind value) ≡ closing_bracket (eqb kind object_kind) ∷ []
    unfolding closing label_of closing_bracket ascii
    closing-container (suc (suc (suc (suc (suc zero))))) h l = refl
    closing-container (suc (suc (suc (suc (suc (suc zero)))))) h l = refl
    closing-container (suc (suc (suc (suc (suc (suc (suc k))))))) h l = absurd (omega arith)
    closing-container zero h l = absurd (omega arith)
    closing-container (suc zero) h l = absurd (omega arith)
    closing-container (suc (suc zero)) h l = absurd (omega arith)
    closing-container (suc (suc (suc zero))) h l = absurd (omega arith)
    closing-container (suc (suc (suc (suc zero)))) h l = absurd (omega arith)

  -- ---- a value
  pub write-scalar : (c : Cell) (kids : Forest Cell) → Fit c kids → c.kind < array_kind → Verbatim T c.value
      → write (meant T c kids) ≡ scalar_bytes T c.kind c.value
  unfolding write write_items map_forest
  write-scalar c kids fit h v =
      rw (fit.scalar h, closing-scalar c.kind c.value h) (simp append-nil (opening-scalar c.kind c.value h v))

  pub write-container : (c : Cell) (kids : Forest Cell) → Fit c kids → array_kind ≤ c.kind
      → write (meant T c kids) ≡ (opening_bracket (eqb c.kind object_kind) ∷ []) ++ write_items (eqb c.kind object_kind) true (members T kids) ++
      (closing_bracket (eqb c.kind object_kind) ∷ [])
  unfolding write
  write-container c kids fit h =
      rw (
        opening-container c.value c.kind h fit.kind,
        closing-container c.value c.kind h fit.kind,
        is_object_label T c.kind c.value
            fit.kind,
      )

  -- the values of a container: the first, with what stands before it, and the others
  pub items_tree : (object first : Bool) (c : Cell) (kids rest : Forest Cell) → Verbatim T c.name.text
      → write_items object first (members T (tree c kids rest)) ≡ prefix_bytes T object first c.name ++ write (meant T c kids) ++ write_items object false
      (members T rest)
  unfolding write_items write map_forest
  items_tree object first c kids rest v = rw (prefix_verbatim object first c.name v) (simp append_assoc)

  pub items_none : (object first : Bool) → write_items object first (members T none) ≡ []
  unfolding write_items map_forest
  items_none object first = refl
