-- A scalar that is written is read back.
use mathlib.Core.Path.{◌≡◌, refl, ◌∙◌}
use mathlib.Core.List.{[], ◌∷◌, ◌++◌}
use mathlib.Core.Bool.{false}
use Prim.Native.Nat.{ℕ, suc, ◌+◌, ◌<◌}
use native.Mathlib.Nat.{add-zero}
use native.Mathlib.Omega.{arith}
use lib.Dec.{eqb}
use lib.ListN.{length}
use borrow.Author.Tests.{ne_eqb}
use Rattle.spec.specs.Outcome.{ok, ◌>>=◌}
use Rattle.spec.specs.Bytes.{Bytes, Text, ascii, byte, within}
use Rattle.spec.specs.Numbers.{is_digit}
use Rattle.spec.specs.Value.{Label, Members, leaf}
use Rattle.spec.specs.Read.{is_blank, word_at, literal_value, string_value, scalar, value}
use Rattle.spec.specs.Write.{write_string, opening}
use Rattle.spec.specs.Proper as Proper
use Rattle.spec.specs.Proper.{Allows, ScalarValues}
use Rattle.claims.proofs.Rest.{Rest, first_byte, rest_next, byte_in_ok}
use Rattle.claims.proofs.StringBack.{string-back}
use Rattle.claims.proofs.NumberText.{room, scalar-value, numeral-first, numeral_bounds, text-number}

pub word_at_back : {s : Bytes} {at : ℕ} (word r : Bytes) → Rest s at (word ++ r) → word_at word s at ≡ ok (at + length word)
unfolding word_at ◌>>=◌
word_at_back {at = at} [] r h = rw (add-zero at)
word_at_back {s} {at} (b ∷ word) r h =
    let place : at + 1 + length word ≡ at + suc (length word) = omega arith in
    rw (byte_in_ok s at b b b (first_byte h) (omega arith) (omega arith), word_at_back {at = at + 1} word r (rest_next h), place)

-- the first byte of a value: it is no blank and closes nothing
pub record Begins (b : ℕ) : Type 0 where
  pub no_blank : is_blank b ≡ false
  pub no_bracket : eqb b 93 ≡ false
  pub no_brace : eqb b 125 ≡ false

literal_back : {s : Bytes} {at : ℕ} (label : Label) (b : ℕ) (word r : Bytes) → Rest s at (b ∷ (word ++ r)) →
    literal_value label word s at ≡ ok (leaf label, at + suc (length word))
unfolding literal_value ◌>>=◌
literal_back {at = at} label b word r h =
    let place : at + 1 + length word ≡ at + suc (length word) = omega arith in
    rw (word_at_back word r (rest_next h), place)

module _ {s : Bytes} {at : ℕ} (left nodes : ℕ) (fits : nodes < 2048) (r : Bytes) where
  pub null_back : Rest s at (ascii "null" ++ r) → value left s at nodes ≡ ok (leaf Label.null_literal, at + 4)
  unfolding scalar ascii is_digit within ◌>>=◌
  null_back h =
      scalar-value left s at nodes (rw (first_byte h)) (rw (first_byte h)) ∙
      rw (first_byte h, room nodes at fits) (literal_back Label.null_literal 110 (ascii "ull") r h)

  pub true_back : Rest s at (ascii "true" ++ r) → value left s at nodes ≡ ok (leaf Label.true_literal, at + 4)
  unfolding scalar ascii is_digit within ◌>>=◌
  true_back h =
      scalar-value left s at nodes (rw (first_byte h)) (rw (first_byte h)) ∙
      rw (first_byte h, room nodes at fits) (literal_back Label.true_literal 116 (ascii "rue") r h)

  pub false_back : Rest s at (ascii "false" ++ r) → value left s at nodes ≡ ok (leaf Label.false_literal, at + 5)
  unfolding scalar ascii is_digit within ◌>>=◌
  false_back h =
      scalar-value left s at nodes (rw (first_byte h)) (rw (first_byte h)) ∙
      rw (first_byte h, room nodes at fits) (literal_back Label.false_literal 102 (ascii "alse") r h)

  pub text_back : (cs : Text) → ScalarValues cs → Rest s at (write_string cs ++ r)
      → value left s at nodes ≡ ok (leaf (Label.string cs), at + length (write_string cs))
  unfolding scalar string_value write_string ◌>>=◌
  text_back cs scalars h =
      scalar-value left s at nodes (rw (first_byte h)) (rw (first_byte h)) ∙
      rw (first_byte h, room nodes at fits, string-back cs r scalars h)

-- Where a value begins

pub string-begins : {s : Bytes} {at : ℕ} {r : Bytes} → Rest s at (34 ∷ r) → Begins (byte s at)
unfolding is_blank
string-begins h = rw (first_byte h) (record { no_blank = refl; no_bracket = refl; no_brace = refl })

pub opening-begins : {s : Bytes} {at : ℕ} {l : Label} {kids : Members} (r : Bytes) → Allows l kids → Rest s at (opening l ++ r) → Begins (byte s at)
unfolding opening ascii is_blank write_string
opening-begins r Proper.null_literal h = rw (first_byte h) (record { no_blank = refl; no_bracket = refl; no_brace = refl })
opening-begins r Proper.true_literal h = rw (first_byte h) (record { no_blank = refl; no_bracket = refl; no_brace = refl })
opening-begins r Proper.false_literal h = rw (first_byte h) (record { no_blank = refl; no_bracket = refl; no_brace = refl })
opening-begins r (Proper.string c) h = string-begins h
opening-begins r Proper.array h = rw (first_byte h) (record { no_blank = refl; no_bracket = refl; no_brace = refl })
opening-begins r Proper.object h = rw (first_byte h) (record { no_blank = refl; no_bracket = refl; no_brace = refl })
opening-begins {s} {at} r (Proper.number {t} n) h =
    let b = numeral_bounds (byte s at) (numeral-first t r (text-number t n) h) in
    record {
      no_blank =
          rw (
            ne_eqb (byte s at) 0x20 (omega arith),
            ne_eqb (byte s at) 0x09 (omega arith),
            ne_eqb (byte s at) 0x0A (omega arith),
            ne_eqb (byte s at) 0x0D (omega arith),
          );
      no_bracket = ne_eqb (byte s at) 93 (omega arith);
      no_brace = ne_eqb (byte s at) 125 (omega arith);
    }
