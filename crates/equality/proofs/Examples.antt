-- The contract's premises can be met: the table holds {"a":100,"b":[]} of a document and {"b":[],"a":1e2} of a patch, and the only answer that the
-- contract allows is that they are equal.
use Prim.Native.Nat.{ℕ, ◌≤◌, ◌<◌}
use Prim.Native.Char.{code}
use native.Mathlib.Omega.{arith}
use mathlib.Core.Path.{◌≡◌, refl, ◌∙◌}
use mathlib.Core.Bool.{Bool, true}
use mathlib.Core.List.{[], ◌∷◌}
use Rattle.spec.specs.Bytes.{ascii, byte, within}
use Rattle.spec.specs.Strings.{character}
use Rattle.spec.specs.Numbers.{is_digit, is_e}
use Rattle.spec.specs.Worth.{mantissa, fraction_digits, decimal, signed_exponent, exponent, drop_zeros, trimmed, is_negative, unless_zero, worth}
use Rattle.spec.specs.Forest.{Forest, none, tree, count, size}
use Rattle.spec.specs.Write.{utf8, write_character, write_characters}
use Rattle.spec.specs.Value.{tag, is_number, is_object, is_container, content, levels, depths, depth, same_text, find}
use Rattle.spec.specs.Equality.{same_bool, same_integer, same_worth, same_label, from_name, same_elements, same_members, equal}
use Rattle.spec.specs.Distinct.{Distinct, empty, member}
use Rattle.lexer.specs.Hash.{mix, hash_from, hash}
use Rattle.text.specs.Decode.{character_in, decode_loop, decode_from, text_from, text_of}
use Rattle.text.specs.Decode as Decode
use Rattle.decimal.specs.Normal.{within_limits}
use Rattle.tape.specs.Layout.{number_kind, array_kind, object_kind, plain_string, numeral, in_document, in_patch, values, forms, sources}
use Rattle.tape.specs.declared.fields.Spelling.{Spelling}
use Rattle.tape.specs.declared.fields.Name.{Name}
use Rattle.tape.specs.declared.fields.Cell.{Cell}
use Rattle.tape.specs.Lent.{Texts, Table}
use Rattle.tape.specs.Tape.{tape}
use Rattle.tape.specs.Cell.{row_of, Told, Fit, Formed, formed_none, formed_tree, Held}
use Rattle.tape.specs.Map.{map_forest}
use Rattle.tape.proofs.Cells.{no_text, no_name}
use Rattle.tape.proofs.Held.{held_next}
use Rattle.table.specs.All.{all_none, all_tree}
use Rattle.table.specs.Meaning.{short_hash, source_text, part_of, spelled, label_of, name_text, meant}
use Rattle.table.specs.Sound.{NameFits, LabelFits, CellFits, Sound, NodeHeld}
use Rattle.table.proofs.NumberLaws.{other_fits}
use Rattle.equality.specs.Compare.{EqualIs}

abbrev texts : Texts
texts = record { document = ascii "{\"a\":100,\"b\":[]}"; patch = ascii "{\"b\":[],\"a\":1e2}" }

-- ---- the cells: each text's source and place; the hash of one character is its code
abbrev spelling : ℕ → ℕ → ℕ → ℕ → Spelling
spelling form source start length = record { form = form; source = source; start = start; length = length }

abbrev named : ℕ → ℕ → ℕ → Name
named source start character = record { text = spelling plain_string source start 1; hash = short_hash (hash (character ∷ [])) }

abbrev object : Cell
object = record { kind = object_kind; value = no_text; name = no_name; origin = 0 }

abbrev a : ℕ → ℕ → ℕ → Cell
a source name number = record { kind = number_kind; value = spelling numeral source number 3; name = named source name (code "a"); origin = 0 }

abbrev b : ℕ → ℕ → Cell
b source name = record { kind = array_kind; value = no_text; name = named source name (code "b"); origin = 0 }

abbrev first : Forest Cell
first = tree (a in_document 2 5) none (tree (b in_document 10) none none)

abbrev second : Forest Cell
second = tree (b in_patch 2) none (tree (a in_patch 9 12) none none)

abbrev whole : Forest Cell
whole = tree object first (tree object second none)

-- ---- the table
abbrev w : Table
w = record { texts = texts; nodes = tape row_of whole }

-- ---- what the contract supposes of it
told : {form source start length : ℕ} → form < forms → source < sources → Told (spelling form source start length)
told f s = record { form = f; source = s }

formed_leaf : {c : Cell} {rest : Forest Cell} → c.kind ≤ object_kind → Told c.value → Told c.name.text → Formed rest → Formed (tree c none rest)
unfolding size
formed_leaf {c} k v n r =
    let fit : Fit c none = record { kind = k; small = omega arith; scalar = λ h. refl; value = v; name = n } in
    formed_tree fit formed_none r

formed-object : {kids rest : Forest Cell} → size kids < values → Formed kids → Formed rest → Formed (tree object kids rest)
formed-object {kids} l k r =
    let none_told : Told no_text = record { form = omega arith; source = omega arith } in
    let fit : Fit object kids = record { kind = omega arith; small = l; scalar = λ h. absurd (omega arith); value = none_told; name = none_told } in
    formed_tree fit k r

formed_first : Formed first
formed_first =
    formed_leaf (omega arith) (told (omega arith) (omega arith)) (told (omega arith) (omega arith))
    (formed_leaf (omega arith) (told (omega arith) (omega arith)) (told (omega arith) (omega arith)) formed_none)

formed_second : Formed second
formed_second =
    formed_leaf (omega arith) (told (omega arith) (omega arith)) (told (omega arith) (omega arith))
    (formed_leaf (omega arith) (told (omega arith) (omega arith)) (told (omega arith) (omega arith)) formed_none)

held : Held w.nodes 0 whole
unfolding tape row_of size
held =
    record {
      after = [];
      rows = record { is = refl };
      formed = formed-object (omega arith) formed_first (formed-object (omega arith) formed_second formed_none);
    }

unfoldable compute : Unit {0}
unfolding ascii byte within character character_in Decode.before decode_loop decode_from text_from text_of mix hash_from hash short_hash source_text part_of
    spelled
compute = tt

unfoldable compute_written : Unit {0}
unfolding utf8 write_character write_characters
compute_written = tt

unfoldable compute_numbers : Unit {0}
unfolding is_digit is_e mantissa fraction_digits decimal signed_exponent exponent drop_zeros trimmed is_negative unless_zero worth within_limits
compute_numbers = tt

-- a container has no text of its own
container_fits : {kind : ℕ} → array_kind ≤ kind → LabelFits texts kind no_text
container_fits h =
    record {
      number = other_fits (λ e. omega arith);
      string = record { form = λ e. absurd (omega arith) };
      verbatim = record {
        is = λ e. absurd
            (omega arith);
      };
    }

name_fits : {name : Name} → name.hash ≡ short_hash (hash (name_text texts name))
    → write_characters (name_text texts name) ≡ part_of texts name.text → NameFits texts name
name_fits e f = record { hashed = record { is = e }; verbatim = record { is = λ g. f } }

module _ (source name : ℕ) where
  a_fits : (number : ℕ) → NameFits texts (a source name number).name → within_limits (part_of texts (a source name number).value) ≡ true
      → CellFits texts (a source name number)
  a_fits number n e =
      record {
        name = n;
        label =
            record {
              number = record { is = λ f. e };
              string = record { form = λ f. absurd (omega arith) };
              verbatim = record { is = λ f. absurd (omega arith) };
            };
      }

  b_fits : NameFits texts (b source name).name → CellFits texts (b source name)
  b_fits n = record { name = n; label = container_fits (omega arith) }

sound_first : Sound texts first
unfolding compute compute_written compute_numbers
sound_first =
    all_tree (a_fits in_document 2 5 (name_fits refl refl) refl) all_none (all_tree (b_fits in_document 10 (name_fits refl refl)) all_none all_none)

sound_second : Sound texts second
unfolding compute compute_written compute_numbers
sound_second =
    all_tree (b_fits in_patch 2 (name_fits refl refl)) all_none (all_tree (a_fits in_patch 9 12 (name_fits refl refl) refl) all_none all_none)

pub first-value : NodeHeld w 0 object first
first-value = record { rest = tree object second none; held = held; label = container_fits (omega arith); sound = sound_first }

pub second-value : NodeHeld w 3 object second
unfolding size
second-value = record { rest = none; held = held_next held; label = container_fits (omega arith); sound = sound_second }

-- ---- what it leaves
are_equal : equal (meant texts object first) (meant texts object second) ≡ true
unfolding compute compute_numbers map_forest label_of count tag is_number is_object content same_text same_bool same_integer same_worth
    same_label from_name same_elements same_members equal
are_equal = refl

two_deep : depth (meant texts object first) ≡ 2
unfolding compute map_forest label_of tag is_container levels depths depth
two_deep = refl

two-names : Distinct (meant texts object second)
unfolding compute map_forest label_of tag is_object count same_text find
two-names = member refl empty (member refl empty empty)

pub equal_example : (r : Bool) → EqualIs w 0 3 2 r → r ≡ true
equal_example r told = told object first object second first-value second-value (omega (arith, two_deep)) two-names ∙ are_equal
