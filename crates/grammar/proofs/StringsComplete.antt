-- The reader of strings is complete: what the grammar derives it reads, with the same meaning.
use Rattle.std.specs.Prelude.{if◌then◌else◌}
use Prim.Native.Nat.{ℕ, zero, suc, ◌+◌, ◌-◌, ◌*◌, ◌<◌, ◌≤◌}
use mathlib.Core.Path.{◌≡◌, refl, ap, ap₂, sym, ◌∙◌}
use mathlib.Core.Bool.{Bool, true, false}
use mathlib.Core.List.{[], ◌∷◌}
use native.Mathlib.Omega.{arith}
use native.Mathlib.Decide.{dec_lt}
use lib.ListN.{length}
use lib.Dec.{eqb}
use borrow.Author.Tests.{eqb-true, ne_eqb}
use Rattle.spec.specs.Outcome.{ok, ◌>>=◌}
use Rattle.spec.specs.Bytes.{Bytes, Text, byte, within, byte_in}
use Rattle.spec.specs.Strings as Strings
use Rattle.spec.specs.Strings.{hex_value, hex_in, low_surrogate, after_high, second_limit, unicode_escape, short_escape, escape, tail, multibyte, character}
use Rattle.spec.specs.Strings.{characters}
use Rattle.grammar.specs.Grammar.{%x, UTF8-1, UTF8-2, UTF8-3, UTF8-4, UTF8-char, HEXDIG, 4HEXDIG, unescaped, char, *char, string}
use Rattle.grammar.proofs.Places.{From, in_text, first, nth, split}
use Rattle.grammar.proofs.Tests.{in_range, below_range, above_range}
use Rattle.grammar.proofs.StringsSound.{Tail, done, more}

-- a byte that stands there, between two bounds
pub byte_in_reads : (s : Bytes) (at : ℕ) {b : ℕ} (low high : ℕ) → byte s at ≡ b → low ≤ b → b ≤ high → byte_in s at low high ≡ ok b
unfolding byte_in
byte_in_reads s at {b} low high e l h = rw (e, in_range low high b l h)

tail_reads : {s w : Bytes} {n low high bits c at next : ℕ} → Tail n low high bits w c → From s at w next → tail n s at low high bits ≡ ok (c, next)
unfolding tail ◌>>=◌
tail_reads {at = at} {next = next} (done e) f = let a = f.far in let same : at ≡ next = omega arith in ap₂ (λ v p. ok (v, p)) e same
tail_reads {s} {at = at} (more {low = low} {high = high} r d) f =
    let (e, g, _) = first f in
    rw (byte_in_reads s at low high e r.0 r.1) (tail_reads d g)

-- the rows of multibyte
module _ (s : Bytes) (at : ℕ) {a : ℕ} where
  multibyte_2 : %x 0xC2 0xDF a → multibyte s at a ≡ tail 1 s (at + 1) 0x80 0xBF (a - 0xC0)
  unfolding multibyte
  multibyte_2 h = rw (in_range 0xC2 0xDF a h.0 h.1)

  multibyte_E1_EC : %x 0xE1 0xEC a → multibyte s at a ≡ tail 2 s (at + 1) 0x80 0xBF (a - 0xE0)
  unfolding multibyte
  multibyte_E1_EC h = rw (above_range 0xC2 0xDF a (omega arith), above_range 0xE0 0xE0 a (omega arith), in_range 0xE1 0xEC a h.0 h.1)

  multibyte_EE_EF : %x 0xEE 0xEF a → multibyte s at a ≡ tail 2 s (at + 1) 0x80 0xBF (a - 0xE0)
  unfolding multibyte
  multibyte_EE_EF h =
      rw (
        above_range 0xC2 0xDF a (omega arith),
        above_range 0xE0 0xE0 a (omega arith),
        above_range 0xE1 0xEC a (omega arith),
        above_range 0xED 0xED a (omega arith),
        in_range 0xEE 0xEF a h.0 h.1,
      )

  multibyte_F1_F3 : %x 0xF1 0xF3 a → multibyte s at a ≡ tail 3 s (at + 1) 0x80 0xBF (a - 0xF0)
  unfolding multibyte
  multibyte_F1_F3 h =
      rw (
        above_range 0xC2 0xDF a (omega arith),
        above_range 0xE0 0xE0 a (omega arith),
        above_range 0xE1 0xEC a (omega arith),
        above_range 0xED 0xED a (omega arith),
        above_range 0xEE 0xEF a (omega arith),
        above_range 0xF0 0xF0 a (omega arith),
        in_range 0xF1 0xF3 a h.0 h.1,
      )

module _ (s : Bytes) (at : ℕ) where
  multibyte_E0 : multibyte s at 0xE0 ≡ tail 2 s (at + 1) 0xA0 0xBF 0x0
  unfolding multibyte within
  multibyte_E0 = refl

  multibyte_ED : multibyte s at 0xED ≡ tail 2 s (at + 1) 0x80 0x9F 0xD
  unfolding multibyte within
  multibyte_ED = refl

  multibyte_F0 : multibyte s at 0xF0 ≡ tail 3 s (at + 1) 0x90 0xBF 0x0
  unfolding multibyte within
  multibyte_F0 = refl

  multibyte_F4 : multibyte s at 0xF4 ≡ tail 3 s (at + 1) 0x80 0x8F 0x4
  unfolding multibyte within
  multibyte_F4 = refl

-- a character that is read, and that does not begin as a closing quotation mark does
pub record CharRead (s : Bytes) (at c next : ℕ) : Type 0 where
  pub reads : character s at ≡ ok (c, next)
  pub no_quote : byte s at ≡ 0x22 → ⊥
  pub grows : at < next

char-read : {s w : Bytes} {a at c next : ℕ} → From s at (a ∷ w) next → (a ≡ 0x22 → ⊥) → character s at ≡ ok (c, next) → CharRead s at c next
char-read f other e =
    let (same, _, _) = first f in
    let far = f.far in
    record { reads = e; no_quote = λ i. other (sym same ∙ i); grows = omega arith }

-- a character of several bytes
several_reads : {s w : Bytes} {a n low high bits c d at next : ℕ} → %x 0x80 0xFF a → multibyte s at a ≡ tail n s (at + 1) low high bits →
    Tail n low high bits w d → d ≡ c →
    From s at (a ∷ w) next → CharRead s at c next
unfolding character
several_reads {a = a} {next = next} h row t same f =
    let (e, g, _) = first f in
    char-read f (λ i. omega arith)
    (rw (e, ne_eqb a 0x5C (λ i. omega arith), above_range 0x20 0x7F a (omega arith), row) (tail_reads t g ∙ ap (λ c. ok (c, next)) same))

-- a character of one byte
plain : {c : ℕ} → unescaped c → (0x20 ≤ c) × (c ≡ 0x22 → ⊥) × (c ≡ 0x5C → ⊥)
plain (unescaped.20-21 r) = (omega arith, (λ e. omega arith), (λ e. omega arith))
plain (unescaped.23-5B r) = (omega arith, (λ e. omega arith), (λ e. omega arith))
plain (unescaped.5D-10FFFF r) = (omega arith, (λ e. omega arith), (λ e. omega arith))

one_reads : {s : Bytes} {a at next : ℕ} → a ≤ 0x7F → unescaped a → From s at (a ∷ []) next → CharRead s at a next
unfolding character
one_reads {a = a} {at = at} h u f =
    let (e, _, _) = first f in
    let (low, no_quote, no-escape) = plain u in
    char-read f no_quote (rw (e, ne_eqb a 0x5C no-escape, in_range 0x20 0x7F a low h, f.far))

utf8_reads : {s w : Bytes} {c at next : ℕ} → UTF8-char w c → unescaped c → From s at w next → CharRead s at c next
utf8_reads (UTF8-char.of_1 (UTF8-1.one {a} h)) u f = one_reads h.1 u f
utf8_reads (UTF8-char.of_2 (UTF8-2.C2-DF h i)) u f = several_reads (omega arith) (multibyte_2 _ _ (omega arith)) (more i (done refl)) (omega arith) f
utf8_reads (UTF8-char.of_3 (UTF8-3.E0 {b = b} h i)) u f =
    several_reads (omega arith) (multibyte_E0 _ _) (more {b = b} (omega arith) (more i (done refl))) (omega arith) f
utf8_reads (UTF8-char.of_3 (UTF8-3.E1-EC h i j)) u f =
    several_reads (omega arith) (multibyte_E1_EC _ _ (omega arith)) (more i (more j (done refl))) (omega arith) f
utf8_reads (UTF8-char.of_3 (UTF8-3.ED {b = b} h i)) u f =
    several_reads (omega arith) (multibyte_ED _ _) (more {b = b} (omega arith) (more i (done refl))) (omega arith) f
utf8_reads (UTF8-char.of_3 (UTF8-3.EE-EF h i j)) u f =
    several_reads (omega arith) (multibyte_EE_EF _ _ (omega arith)) (more i (more j (done refl))) (omega arith) f
utf8_reads (UTF8-char.of_4 (UTF8-4.F0 {b = b} h i j)) u f =
    several_reads (omega arith) (multibyte_F0 _ _) (more {b = b} (omega arith) (more i (more j (done refl)))) (omega arith) f
utf8_reads (UTF8-char.of_4 (UTF8-4.F1-F3 h i j k)) u f =
    several_reads (omega arith) (multibyte_F1_F3 _ _ (omega arith)) (more i (more j (more k (done refl)))) (omega arith) f
utf8_reads (UTF8-char.of_4 (UTF8-4.F4 {b = b} h i j)) u f =
    several_reads (omega arith) (multibyte_F4 _ _) (more {b = b} (omega arith) (more i (more j (done refl)))) (omega arith) f

-- hexadecimal digits
hex_value-digit : {b h : ℕ} → HEXDIG b h → (hex_value b ≡ h) × (h ≤ 0xF)
unfolding hex_value
hex_value-digit (HEXDIG.digit {b} r) = (rw (in_range 0x30 0x39 b r.0 r.1), omega arith)
hex_value-digit (HEXDIG.upper_case {b} r) = (rw (above_range 0x30 0x39 b (omega arith), in_range 0x41 0x46 b r.0 r.1), omega arith)
hex_value-digit (HEXDIG.lower_case {b} r) =
    (rw (above_range 0x30 0x39 b (omega arith), above_range 0x41 0x46 b (omega arith), in_range 0x61 0x66 b r.0 r.1), omega arith)

hex_in_reads : (s : Bytes) (at : ℕ) {b h : ℕ} (low high : ℕ) → byte s at ≡ b → HEXDIG b h → low ≤ h → h ≤ high → hex_in s at low high ≡ ok h
unfolding hex_in
hex_in_reads s at {b} {h} low high e d l m = rw (e, (hex_value-digit d).0, in_range low high h l m)

-- the digits of an escape
record Digits (s : Bytes) (at h i j k next : ℕ) : Type 0 where
  first_digit_lem : (low high : ℕ) → low ≤ h → h ≤ high → hex_in s at low high ≡ ok h
  second-digit : (low high : ℕ) → low ≤ i → i ≤ high → hex_in s (at + 1) low high ≡ ok i
  third-digit : hex_in s (at + 2) 0x0 0xF ≡ ok j
  fourth_digit : hex_in s (at + 3) 0x0 0xF ≡ ok k
  far : next ≡ at + 4
  small : (h ≤ 0xF) × (i ≤ 0xF) × (j ≤ 0xF) × (k ≤ 0xF)

digits_at : {s : Bytes} {a b c d h i j k at next : ℕ} → HEXDIG a h → HEXDIG b i → HEXDIG c j → HEXDIG d k → From s at (a ∷ b ∷ c ∷ d ∷ []) next →
    Digits s at h i j k next
digits_at {s} {at = at} da db dc dd f =
    record {
      first_digit_lem = λ low high l m. hex_in_reads s at low high (first f).0 da l m;
      second-digit = λ low high l m. hex_in_reads s (at + 1) low high (nth f 1 (omega arith)) db l m;
      third-digit = hex_in_reads s (at + 2) 0x0 0xF (nth f 2 (omega arith)) dc (omega arith) (hex_value-digit dc).1;
      fourth_digit = hex_in_reads s (at + 3) 0x0 0xF (nth f 3 (omega arith)) dd (omega arith) (hex_value-digit dd).1;
      far = f.far;
      small = ((hex_value-digit da).1, (hex_value-digit db).1, (hex_value-digit dc).1, (hex_value-digit dd).1);
    }

-- escapes
module _ {s : Bytes} {at next : ℕ} where
  short_reads : {b c : ℕ} → From s at (0x5C ∷ b ∷ []) next → eqb b 0x75 ≡ false → short_escape b ≡ c → 0 < c → CharRead s at c next
  unfolding character escape
  short_reads {c = c} f other e l =
      let (slash, g, _) = first f in
      let (letter, _, _) = first g in
      let far = f.far in
      let same : at + 1 + 1 ≡ next = omega arith in
      char-read f (λ i. omega arith) (rw (slash, letter, other, e, ne_eqb c 0 (λ i. omega arith), same))

  unicode_reads : {w : Bytes} {c : ℕ} → From s at (0x5C ∷ 0x75 ∷ w) next → unicode_escape s (at + 2) ≡ ok (c, next) → CharRead s at c next
  unfolding character escape
  unicode_reads f e =
      let (slash, g, _) = first f in
      let (letter, _, _) = first g in
      let same : at + 1 + 1 ≡ at + 2 = omega arith in
      char-read f (λ i. omega arith) (rw (slash, letter, same) e)

-- the number that four digits write
abbrev unit : ℕ → ℕ → ℕ → ℕ → ℕ
unit h i j k = h * 0x1000 + i * 0x100 + j * 0x10 + k

module _ {s : Bytes} {at h i j k next : ℕ} (d : Digits s at h i j k next) where
  second_limit_lem : (0xDC00 ≤ (unit h i j k) → (unit h i j k) ≤ 0xDFFF → ⊥) → i ≤ second_limit h
  unfolding second_limit
  second_limit_lem other = go (eqb h 0xD) refl (dec_lt 0xB i)
    where
      go : (c : Bool) → eqb h 0xD ≡ c → Dec (0xB < i) → i ≤ (if c then 0xB else 0xF)
      go true e (yes l) = let same = eqb-true h 0xD e in let small = d.small in absurd (other (omega arith) (omega arith))
      go true e (no l) = omega arith
      go false e l = d.small.1

  unit_reads : (0xDC00 ≤ (unit h i j k) → (unit h i j k) ≤ 0xDFFF → ⊥) →
      unicode_escape s at ≡ (if within 0xD800 0xDBFF (unit h i j k) then after_high s (unit h i j k) (at + 4) else ok ((unit h i j k), at + 4))
  unfolding unicode_escape ◌>>=◌
  unit_reads other =
      rw (
        d.first_digit_lem 0x0 0xF (omega arith) d.small.0,
        d.second-digit 0x0 (second_limit h) (omega arith) (second_limit_lem other),
        d.third-digit,
        d.fourth_digit,
      )

  below_reads : (unit h i j k) < 0xD800 → unicode_escape s at ≡ ok ((unit h i j k), next)
  below_reads l = rw (unit_reads (λ m n. omega arith), below_range 0xD800 0xDBFF (unit h i j k) l, d.far)

  above_reads : 0xDFFF < (unit h i j k) → unicode_escape s at ≡ ok ((unit h i j k), next)
  above_reads l = rw (unit_reads (λ m n. omega arith), above_range 0xD800 0xDBFF (unit h i j k) (omega arith), d.far)

  high_reads : %x 0xD800 0xDBFF (unit h i j k) → unicode_escape s at ≡ after_high s (unit h i j k) (at + 4)
  high_reads r = rw (unit_reads (λ m n. omega arith), in_range 0xD800 0xDBFF (unit h i j k) r.0 r.1)

  low_reads : (high : ℕ) → %x 0xDC00 0xDFFF (unit h i j k) →
      low_surrogate s high at ≡ ok (0x1_0000 + (high - 0xD800) * 0x400 + ((unit h i j k) - 0xDC00), next)
  unfolding low_surrogate ◌>>=◌
  low_reads high r =
      let small = d.small in
      let same : (i - 0xC) * 0x100 + j * 0x10 + k ≡ (unit h i j k) - 0xDC00 = omega arith in
      rw (
        d.first_digit_lem 0xD 0xD (omega arith) (omega arith),
        d.second-digit 0xC 0xF (omega arith) d.small.1,
        d.third-digit,
        d.fourth_digit,
        ← d.far,
        same,
      )

pair_reads : {s : Bytes} {a b c d a' b' c' d' h i j k h' i' j' k' at next : ℕ} → HEXDIG a h → HEXDIG b i → HEXDIG c j → HEXDIG d k → HEXDIG a' h' →
    HEXDIG b' i' → HEXDIG c' j' → HEXDIG d' k' →
    %x 0xD800 0xDBFF (unit h i j k) → %x 0xDC00 0xDFFF (unit h' i' j' k') →
    From s at (a ∷ b ∷ c ∷ d ∷ 0x5C ∷ 0x75 ∷ a' ∷ b' ∷ c' ∷ d' ∷ []) next →
    unicode_escape s at ≡ ok (0x1_0000 + (unit h i j k - 0xD800) * 0x400 + (unit h' i' j' k' - 0xDC00), next)
unfolding after_high ◌>>=◌
pair_reads {s} {a} {b} {c} {d} {a'} {b'} {c'} {d'} {at = at} {next = next} da db dc dd da' db' dc' dd' high low f =
    let (f₁, f₂) = split (a ∷ b ∷ c ∷ d ∷ []) (0x5C ∷ 0x75 ∷ a' ∷ b' ∷ c' ∷ d' ∷ []) f in
    let (_, f₃) = split (0x5C ∷ 0x75 ∷ []) (a' ∷ b' ∷ c' ∷ d' ∷ []) f₂ in
    high_reads (digits_at da db dc dd f₁) high ∙
    rw (
      byte_in_reads s (at + 4) 0x5C 0x5C (first f₂).0 (omega arith) (omega arith),
      byte_in_reads s (at + 4 + 1) 0x75 0x75 (nth f₂ 1 (omega arith)) (omega arith) (omega arith),
    )
    (low_reads (digits_at da' db' dc' dd' f₃) _ low)

-- what follows \u
after_u : {s w : Bytes} {at next : ℕ} → From s at (0x5C ∷ 0x75 ∷ w) next → From s (at + 2) w next
after_u {w = w} f = (split (0x5C ∷ 0x75 ∷ []) w f).1

pub char-reads : {s w : Bytes} {c at next : ℕ} → char w c → From s at w next → CharRead s at c next
unfolding short_escape
char-reads (char.plain d u) f = utf8_reads d u f
char-reads char.U+0022 f = short_reads f refl refl (omega arith)
char-reads char.U+005C f = short_reads f refl refl (omega arith)
char-reads char.U+002F f = short_reads f refl refl (omega arith)
char-reads char.U+0008 f = short_reads f refl refl (omega arith)
char-reads char.U+000C f = short_reads f refl refl (omega arith)
char-reads char.U+000A f = short_reads f refl refl (omega arith)
char-reads char.U+000D f = short_reads f refl refl (omega arith)
char-reads char.U+0009 f = short_reads f refl refl (omega arith)
char-reads (char.below_surrogates (4HEXDIG.digits da db dc dd) l) f = unicode_reads f (below_reads (digits_at da db dc dd (after_u f)) (omega arith))
char-reads (char.above_surrogates (4HEXDIG.digits da db dc dd) l) f = unicode_reads f (above_reads (digits_at da db dc dd (after_u f)) (omega arith))
char-reads (char.surrogate_pair (4HEXDIG.digits da db dc dd) high (4HEXDIG.digits da' db' dc' dd') low) f =
    unicode_reads f (pair_reads da db dc dd da' db' dc' dd' high low (after_u f))

chars_read : (fuel : ℕ) {s w : Bytes} {cs : Text} {at end : ℕ} → *char w cs → From s at w end → byte s end ≡ 0x22 → length s ≤ fuel + at →
    characters fuel s at ≡ ok (cs, end + 1)
unfolding characters ◌>>=◌
chars_read zero {s} {end = end} d f e l = let far = f.far in absurd (omega (arith, in_text s end (omega arith)))
chars_read (suc fuel) {at = at} {end = end} *char.none f e l =
    let far = f.far in
    let same : at ≡ end = omega arith in
    rw (same, e)
chars_read (suc fuel) {s} {at = at} (*char.more {w} {ws} c cs) f e l =
    let (g, h) = split w ws f in
    let r = char-reads c g in
    let grows = r.grows in
    rw (ne_eqb (byte s at) 0x22 r.no_quote, r.reads, chars_read fuel cs h e (omega arith))

pub string-reads : {s w : Bytes} {cs : Text} {at next : ℕ} → string w cs → From s at w next → Strings.string s at ≡ ok (cs, next)
unfolding Strings.string ◌>>=◌
string-reads {s} {at = at} (string.quoted {w} d) f =
    let (quote, g, _) = first f in
    let (h, i) = split w (0x22 ∷ []) g in
    let (closing, _, _) = first i in
    rw (byte_in_reads s at 0x22 0x22 quote (omega arith) (omega arith), chars_read (length s) d h closing (omega arith), i.far)
