-- A character that is written is read back.
use Rattle.std.specs.Prelude.{if◌then◌else◌}
use mathlib.Core.Path.{◌≡◌, refl, ◌∙◌}
use mathlib.Core.List.{[], ◌∷◌, ◌++◌}
use mathlib.Core.Bool.{Bool, true, false}
use Prim.Native.Nat.{ℕ, ◌+◌, ◌-◌, ◌*◌, ◌/◌, ◌%◌, ◌≤◌, ◌<◌}
use native.Mathlib.Omega.{arith}
use native.Mathlib.Decide.{dec_lt}
use lib.Dec.{eqb, leb, ltb}
use lib.ListN.{length}
use borrow.Author.Tests.{eqb-true, ne_eqb, leb-true, leb-false, ltb-true, ltb-false}
use Rattle.spec.specs.Outcome.{ok, ◌>>=◌}
use Rattle.spec.specs.Bytes.{Bytes, byte, within, ascii}
use Rattle.spec.specs.Strings.{hex_value, hex_in, second_limit, unicode_escape, short_escape, escape, tail, multibyte, character}
use Rattle.spec.specs.Write.{utf8, hex_digit, write_character}
use Rattle.spec.specs.Proper.{ScalarValue, below_surrogates, above_surrogates}
use Rattle.claims.proofs.Rest.{Rest, byte_at, first_byte, rest_next, within_true, within_low, within_high, byte_in_ok}

module _ {s : Bytes} {at : ℕ} where
  -- a backslash and a letter
  short : (e c : ℕ) {r : Bytes} → eqb e 117 ≡ false → short_escape e ≡ c → eqb c 0 ≡ false → Rest s at (92 ∷ e ∷ r) → character s at ≡ ok (c, at + 2)
  unfolding character escape
  short e c u v z h =
      let place : at + 1 + 1 ≡ at + 2 = omega arith in
      rw (first_byte h, first_byte (rest_next h), u, v, z, place)

  -- one byte
  plain : (c : ℕ) {r : Bytes} → 0x20 ≤ c → c < 0x80 → eqb c 92 ≡ false → Rest s at (c ∷ r) → character s at ≡ ok (c, at + 1)
  unfolding character
  plain c l h e r = rw (first_byte r, e, within_true {low = 0x20} {high = 0x7F} l (omega arith))

-- hexadecimal digits
hex_back : (n : ℕ) → n < 16 → hex_value (hex_digit n) ≡ n
unfolding hex_value hex_digit
hex_back n h = go (ltb n 10) refl
  where
    go : (b : Bool) → ltb n 10 ≡ b → hex_value (if b then 48 + n else 97 + (n - 10)) ≡ n
    go true q =
        let l = ltb-true n 10 q in
        rw (within_true {low = 48} {high = 57} {n = 48 + n} (omega arith) (omega arith)) (omega arith)
    go false q =
        let l = ltb-false n 10 q in
        rw (
          within_high 48 57 (97 + (n - 10)) (omega arith),
          within_high 65 70 (97 + (n - 10)) (omega arith),
          within_true {low = 97} {high = 102} {n = 97 + (n - 10)} (omega arith) (omega arith),
        ) (omega arith)

hex_in_ok : (s : Bytes) (at low high n : ℕ) → byte s at ≡ hex_digit n → n < 16 → low ≤ n → n ≤ high → hex_in s at low high ≡ ok n
unfolding hex_in
hex_in_ok s at low high n e b l h = rw (e, hex_back n b, within_true l h)

module _ {s : Bytes} {at : ℕ} where
  -- a control by its four digits
  control : (c : ℕ) {r : Bytes} → c < 0x20 → Rest s at (92 ∷ 117 ∷ 48 ∷ 48 ∷ hex_digit (c / 16) ∷ hex_digit (c % 16) ∷ r) → character s at ≡ ok (c, at + 6)
  unfolding character escape unicode_escape second_limit hex_digit ◌>>=◌
  control c l h =
      let p = rest_next (rest_next h) in
      let second = byte_at p 1 in
      let place : at + 1 + 1 + 4 ≡ at + 6 = omega arith in
      let value : 0 * 0x1000 + 0 * 0x100 + c / 16 * 0x10 + c % 16 ≡ c = omega arith in
      rw (
        first_byte h,
        first_byte (rest_next h),
        hex_in_ok s (at + 1 + 1) 0 15 0 (first_byte p) (omega arith) (omega arith) (omega arith),
        hex_in_ok s (at + 1 + 1 + 1) 0 15 0 (byte_at p 1) (omega arith) (omega arith) (omega arith),
        hex_in_ok s (at + 1 + 1 + 2) 0 15 (c / 16) (byte_at p 2) (omega arith) (omega arith) (omega arith),
        hex_in_ok s (at + 1 + 1 + 3) 0 15 (c % 16) (byte_at p 3) (omega arith) (omega arith) (omega arith),
        value,
        within_low 0xD800 0xDBFF c (omega arith),
        place,
      )

  -- the bytes after the first
  tail-one : (low high bits d : ℕ) {r : Bytes} → low ≤ d → d ≤ high → Rest s at (d ∷ r) → tail 1 s at low high bits ≡ ok (bits * 64 + (d - 0x80), at + 1)
  unfolding tail ◌>>=◌
  tail-one low high bits d l h r = rw (byte_in_ok s at low high d (first_byte r) l h)

module _ {s : Bytes} {at : ℕ} where
  tail-two : (low high bits d e : ℕ) {r : Bytes} → low ≤ d → d ≤ high → 0x80 ≤ e → e ≤ 0xBF → Rest s at (d ∷ e ∷ r) →
      tail 2 s at low high bits ≡ ok ((bits * 64 + (d - 0x80)) * 64 + (e - 0x80), at + 2)
  unfolding tail ◌>>=◌
  tail-two low high bits d e l h l' h' r =
      let place : at + 1 + 1 ≡ at + 2 = omega arith in
      rw (byte_in_ok s at low high d (first_byte r) l h, tail-one 0x80 0xBF (bits * 64 + (d - 0x80)) e l' h' (rest_next r), place)

module _ {s : Bytes} {at : ℕ} where
  tail-three : (low high bits d e f : ℕ) {r : Bytes} → low ≤ d → d ≤ high → 0x80 ≤ e → e ≤ 0xBF → 0x80 ≤ f → f ≤ 0xBF → Rest s at (d ∷ e ∷ f ∷ r) →
      tail 3 s at low high bits ≡ ok (((bits * 64 + (d - 0x80)) * 64 + (e - 0x80)) * 64 + (f - 0x80), at + 3)
  unfolding tail ◌>>=◌
  tail-three low high bits d e f l h l' h' l'' h'' r =
      let place : at + 1 + 2 ≡ at + 3 = omega arith in
      rw (byte_in_ok s at low high d (first_byte r) l h, tail-two 0x80 0xBF (bits * 64 + (d - 0x80)) e f l' h' l'' h'' (rest_next r), place)

  -- a first byte above 7F begins a character of more bytes
  above-ascii : (b : ℕ) {r : Bytes} → 0x80 ≤ b → Rest s at (b ∷ r) → character s at ≡ multibyte s at b
  unfolding character
  above-ascii b l r = rw (first_byte r, ne_eqb b 92 (omega arith), within_high 0x20 0x7F b (omega arith))

  two_bytes : (c : ℕ) {r : Bytes} → 0x80 ≤ c → c < 0x800 → Rest s at ((0xC0 + c / 64) ∷ (0x80 + c % 64) ∷ r) → character s at ≡ ok (c, at + 2)
  unfolding multibyte
  two_bytes c l h r =
      let b = 0xC0 + c / 64 in
      let place : at + 1 + 1 ≡ at + 2 = omega arith in
      let value : (b - 0xC0) * 64 + (0x80 + c % 64 - 0x80) ≡ c = omega arith in
      above-ascii b (omega arith) r ∙
      rw (
        within_true {low = 0xC2} {high = 0xDF} {n = b} (omega arith) (omega arith),
        tail-one 0x80 0xBF (b - 0xC0) (0x80 + c % 64) (omega arith) (omega arith) (rest_next r),
        value,
        place,
      )

-- what a scalar value is not
before_surrogates : {c : ℕ} → ScalarValue c → c < 0xE000 → c ≤ 0xD7FF
before_surrogates (below_surrogates l) p = l
before_surrogates (above_surrogates l h) p = absurd (omega arith)

scalar_bound : {c : ℕ} → ScalarValue c → c ≤ 0x10_FFFF
scalar_bound (below_surrogates l) = omega arith
scalar_bound (above_surrogates l h) = h

-- the six-bit parts of a code point
parts_three : (c : ℕ) → (c / 4096 * 64 + c / 64 % 64) * 64 + c % 64 ≡ c
parts_three c = omega arith

parts_four : (c : ℕ) → ((c / 262144 * 64 + c / 4096 % 64) * 64 + c / 64 % 64) * 64 + c % 64 ≡ c
parts_four c = omega arith

module _ {s : Bytes} {at : ℕ} where
  -- three bytes, by the row of the first
  three_bytes_row : (c low high : ℕ) {r : Bytes} → multibyte s at (0xE0 + c / 4096) ≡ tail 2 s (at + 1) low high (0xE0 + c / 4096 - 0xE0) →
      low ≤ 0x80 + c / 64 % 64 → 0x80 + c / 64 % 64 ≤ high → Rest s at ((0xE0 + c / 4096) ∷ (0x80 + c / 64 % 64) ∷ (0x80 + c % 64) ∷ r) →
      character s at ≡ ok (c, at + 3)
  three_bytes_row c low high row l h r =
      let b = 0xE0 + c / 4096 in
      let place : at + 1 + 2 ≡ at + 3 = omega arith in
      let value : ((b - 0xE0) * 64 + (0x80 + c / 64 % 64 - 0x80)) * 64 + (0x80 + c % 64 - 0x80) ≡ c = omega (arith, parts_three c) in
      above-ascii b (omega arith) r ∙ row ∙
      rw (tail-two low high (b - 0xE0) (0x80 + c / 64 % 64) (0x80 + c % 64) l h (omega arith) (omega arith) (rest_next r), value, place)

  three_bytes : (c : ℕ) {r : Bytes} → 0x800 ≤ c → c < 0x1_0000 → ScalarValue c →
      Rest s at ((0xE0 + c / 4096) ∷ (0x80 + c / 64 % 64) ∷ (0x80 + c % 64) ∷ r) → character s at ≡ ok (c, at + 3)
  unfolding multibyte within
  three_bytes c l h scalar r = go (dec_lt c 0x1000) (dec_lt c 0xD000) (dec_lt c 0xE000)
    where
      go : Dec (c < 0x1000) → Dec (c < 0xD000) → Dec (c < 0xE000) → character s at ≡ ok (c, at + 3)
      go (yes p) d e = let first : c / 4096 ≡ 0 = omega arith in three_bytes_row c 0xA0 0xBF (rw first) (omega arith) (omega arith) r
      go (no m) (yes p) e =
          let b = 0xE0 + c / 4096 in
          three_bytes_row c 0x80 0xBF
          (rw (
            within_high 0xC2 0xDF b (omega arith),
            within_high 0xE0 0xE0 b (omega arith),
            within_true {low = 0xE1} {high = 0xEC} {n = b} (omega arith) (omega arith),
          ))
          (omega arith) (omega arith) r
      go (no m) (no n) (yes p) =
          let first : c / 4096 ≡ 13 = omega arith in
          let low = before_surrogates scalar p in
          three_bytes_row c 0x80 0x9F (rw first) (omega arith) (omega arith) r
      go (no m) (no n) (no o) =
          let b = 0xE0 + c / 4096 in
          three_bytes_row c 0x80 0xBF
          (rw (
            within_high 0xC2 0xDF b (omega arith),
            within_high 0xE0 0xE0 b (omega arith),
            within_high 0xE1 0xEC b (omega arith),
            within_high 0xED 0xED b (omega arith),
            within_true {low = 0xEE} {high = 0xEF} {n = b} (omega arith) (omega arith),
          ))
          (omega arith) (omega arith) r

  -- four bytes
  four_bytes_row : (c low high : ℕ) {r : Bytes} → multibyte s at (0xF0 + c / 262144) ≡ tail 3 s (at + 1) low high (0xF0 + c / 262144 - 0xF0) →
      low ≤ 0x80 + c / 4096 % 64 → 0x80 + c / 4096 % 64 ≤ high →
      Rest s at ((0xF0 + c / 262144) ∷ (0x80 + c / 4096 % 64) ∷ (0x80 + c / 64 % 64) ∷ (0x80 + c % 64) ∷ r) → character s at ≡ ok (c, at + 4)
  four_bytes_row c low high row l h r =
      let b = 0xF0 + c / 262144 in
      let place : at + 1 + 3 ≡ at + 4 = omega arith in
      let value : (((b - 0xF0) * 64 + (0x80 + c / 4096 % 64 - 0x80)) * 64 + (0x80 + c / 64 % 64 - 0x80)) * 64 + (0x80 + c % 64 - 0x80) ≡ c =
      omega (arith, parts_four c) in
      above-ascii b (omega arith) r ∙ row ∙
      rw (
        tail-three low high (b - 0xF0) (0x80 + c / 4096 % 64) (0x80 + c / 64 % 64)
            (0x80 + c % 64) l h (omega arith) (omega arith) (omega arith) (omega arith) (rest_next r),
        value,
        place,
      )

  four_bytes : (c : ℕ) {r : Bytes} → 0x1_0000 ≤ c → c ≤ 0x10_FFFF →
      Rest s at ((0xF0 + c / 262144) ∷ (0x80 + c / 4096 % 64) ∷ (0x80 + c / 64 % 64) ∷ (0x80 + c % 64) ∷ r) → character s at ≡ ok (c, at + 4)
  unfolding multibyte within
  four_bytes c l h r = go (dec_lt c 0x4_0000) (dec_lt c 0x10_0000)
    where
      go : Dec (c < 0x4_0000) → Dec (c < 0x10_0000) → character s at ≡ ok (c, at + 4)
      go (yes p) d = let first : c / 262144 ≡ 0 = omega arith in four_bytes_row c 0x90 0xBF (rw first) (omega arith) (omega arith) r
      go (no m) (yes p) =
          let b = 0xF0 + c / 262144 in
          four_bytes_row c 0x80 0xBF
          (rw (
            within_high 0xC2 0xDF b (omega arith),
            within_high 0xE0 0xE0 b (omega arith),
            within_high 0xE1 0xEC b (omega arith),
            within_high 0xED 0xED b (omega arith),
            within_high 0xEE 0xEF b (omega arith),
            within_high 0xF0 0xF0 b (omega arith),
            within_true {low = 0xF1} {high = 0xF3} {n = b} (omega arith) (omega arith),
          ))
          (omega arith) (omega arith) r
      go (no m) (no n) = let first : c / 262144 ≡ 4 = omega arith in four_bytes_row c 0x80 0x8F (rw first) (omega arith) (omega arith) r

-- The forms of a written character

data Form (c : ℕ) : Bytes → Type 0 where
  letter : (e : ℕ) → eqb e 117 ≡ false → short_escape e ≡ c → eqb c 0 ≡ false → Form c (92 ∷ e ∷ [])
  digits : c < 0x20 → Form c (92 ∷ 117 ∷ 48 ∷ 48 ∷ hex_digit (c / 16) ∷ hex_digit (c % 16) ∷ [])
  one : 0x20 ≤ c → c < 0x80 → eqb c 34 ≡ false → eqb c 92 ≡ false → Form c (c ∷ [])
  two : 0x80 ≤ c → c < 0x800 → Form c ((0xC0 + c / 64) ∷ (0x80 + c % 64) ∷ [])
  three : 0x800 ≤ c → c < 0x1_0000 → Form c ((0xE0 + c / 4096) ∷ (0x80 + c / 64 % 64) ∷ (0x80 + c % 64) ∷ [])
  four : 0x1_0000 ≤ c → Form c ((0xF0 + c / 262144) ∷ (0x80 + c / 4096 % 64) ∷ (0x80 + c / 64 % 64) ∷ (0x80 + c % 64) ∷ [])

either : {c : ℕ} (test : Bool) {a b : Bytes} → (test ≡ true → Form c a) → (test ≡ false → Form c b) → Form c (if test then a else b)
either true f g = f refl
either false f g = g refl

utf8_form : (c : ℕ) → 0x20 ≤ c → eqb c 34 ≡ false → eqb c 92 ≡ false → Form c (utf8 c)
unfolding utf8
utf8_form c l q e =
    either (ltb c 0x80) (λ h. one l (ltb-true c 0x80 h) q e) λ h.
    either (ltb c 0x800) (λ i. two (ltb-false c 0x80 h) (ltb-true c 0x800 i)) λ i.
    either (ltb c 0x1_0000) (λ j. three (ltb-false c 0x800 i) (ltb-true c 0x1_0000 j)) λ j.
    four (ltb-false c 0x1_0000 j)

letter_of : (c d e : ℕ) → eqb c d ≡ true → eqb e 117 ≡ false → short_escape e ≡ d → eqb d 0 ≡ false → Form c (92 ∷ e ∷ [])
letter_of c d e h u s z = rw (eqb-true c d h) (letter e u s z)

form : (c : ℕ) → Form c (write_character c)
unfolding write_character ascii short_escape
form c =
    either (eqb c 34) (λ h. letter_of c 34 34 h refl refl refl) λ q.
    either (eqb c 92) (λ h. letter_of c 92 92 h refl refl refl) λ e.
    either (leb 0x20 c) (λ h. utf8_form c (leb-true 0x20 c h) q e) λ l.
    either (eqb c 8) (λ h. letter_of c 8 98 h refl refl refl) λ _.
    either (eqb c 9) (λ h. letter_of c 9 116 h refl refl refl) λ _.
    either (eqb c 10) (λ h. letter_of c 10 110 h refl refl refl) λ _.
    either (eqb c 12) (λ h. letter_of c 12 102 h refl refl refl) λ _.
    either (eqb c 13) (λ h. letter_of c 13 114 h refl refl refl) λ _.
    digits (leb-false 0x20 c l)

-- Each is read back, and none begins with a quotation mark, which would end the string.

pub record Back (s : Bytes) (at c : ℕ) (w : Bytes) : Type 0 where
  pub reads : character s at ≡ ok (c, at + length w)
  pub no_quote : eqb (byte s at) 34 ≡ false

form_back : {s : Bytes} {at c : ℕ} {w : Bytes} (r : Bytes) → ScalarValue c → Form c w → Rest s at (w ++ r) → Back s at c w
form_back r scalar (letter e u v z) h = record { reads = short e _ u v z h; no_quote = rw (first_byte h) }
form_back r scalar (digits l) h = record { reads = control _ l h; no_quote = rw (first_byte h) }
form_back r scalar (one l m q e) h = record { reads = plain _ l m e h; no_quote = rw (first_byte h) q }
form_back {c = c} r scalar (two l m) h =
    record { reads = two_bytes c l m h; no_quote = rw (first_byte h) (ne_eqb (0xC0 + c / 64) 34 (omega arith)) }
form_back {c = c} r scalar (three l m) h =
    record { reads = three_bytes c l m scalar h; no_quote = rw (first_byte h) (ne_eqb (0xE0 + c / 4096) 34 (omega arith)) }
form_back {c = c} r scalar (four l) h =
    record { reads = four_bytes c l (scalar_bound scalar) h; no_quote = rw (first_byte h) (ne_eqb (0xF0 + c / 262144) 34 (omega arith)) }

pub character_back : {s : Bytes} {at : ℕ} (c : ℕ) (r : Bytes) → ScalarValue c → Rest s at (write_character c ++ r) → Back s at c (write_character c)
character_back c r scalar h = form_back r scalar (form c) h

-- a character is written in at least one byte
pub character-length : (c : ℕ) → 1 ≤ length (write_character c)
character-length c = go (form c)
  where
    go : {w : Bytes} → Form c w → 1 ≤ length w
    go (letter e u v z) = omega arith
    go (digits l) = omega arith
    go (one l m q e) = omega arith
    go (two l m) = omega arith
    go (three l m) = omega arith
    go (four l) = omega arith
