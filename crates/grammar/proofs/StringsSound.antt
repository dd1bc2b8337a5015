-- The reader of strings is sound.
use Rattle.std.specs.Prelude.{if◌then◌else◌}
use Prim.Native.Nat.{ℕ, zero, suc, ◌+◌, ◌-◌, ◌*◌, ◌<◌, ◌≤◌}
use mathlib.Core.Path.{◌≡◌, refl, ap, subst, sym, ◌∙◌}
use mathlib.Core.Bool.{Bool, true, false}
use mathlib.Core.List.{[], ◌∷◌, ◌++◌, append_assoc}
use native.Mathlib.Omega.{arith}
use native.Mathlib.Decide.{dec_lt}
use lib.ListN.{length}
use lib.Dec.{eqb}
use borrow.Author.Tests.{eqb-true, eqb-false}
use Rattle.spec.specs.Outcome.{Outcome, ok, refused, ◌>>=◌}
use Rattle.spec.specs.Refusal.{not_json}
use Rattle.spec.specs.Bytes.{Bytes, Text, byte, within}
use Rattle.spec.specs.Strings as Strings
use Rattle.spec.specs.Strings.{hex_value, hex_in, low_surrogate, after_high, second_limit, unicode_escape, short_escape, escape, tail, multibyte, character}
use Rattle.spec.specs.Strings.{characters}
use Rattle.grammar.specs.Grammar.{%x, UTF8-1, UTF8-2, UTF8-3, UTF8-4, UTF8-char, HEXDIG, 4HEXDIG, unescaped, char, *char, string}
use Rattle.grammar.proofs.Tests.{by_cases, within_true, past_range}
use Rattle.grammar.proofs.Sound.{Sound, Some, some, some_cons, refuses, gives, weaken, choose, and_then, finish, past, byte_in_then, expect_then}

-- results that are a meaning and a place
abbrev pub end : {A : Type 0} → A × ℕ → ℕ
end x = x.1

abbrev pub Means : {A : Type 0} → (Bytes → A → Type 0) → Bytes → A × ℕ → Type 0
Means P w x = P w x.0

-- the bytes of a character after its first, as the reader takes them
pub data Tail : ℕ → ℕ → ℕ → ℕ → Bytes → ℕ → Type 0 where
  done : {low high bits c : ℕ} → bits ≡ c → Tail zero low high bits [] c
  more : {n low high bits b c : ℕ} {w : Bytes} → %x low high b → Tail n 0x80 0xBF (bits * 64 + (b - 0x80)) w c → Tail (suc n) low high bits (b ∷ w) c

some_tail : (n low high bits : ℕ) → low ≤ high → Some (Means (Tail n low high bits))
some_tail zero low high bits l = some [] (bits, 0) (done refl)
some_tail (suc n) low high bits l =
    let rest = some_tail n 0x80 0xBF (bits * 64 + (low - 0x80)) (omega arith) in
    some (low ∷ rest.text) rest.meaning (more (omega arith, l) rest.derived)

tail_sound : (n : ℕ) (s : Bytes) (at low high bits : ℕ) → 0 < low → low ≤ high →
    Sound s end at (Means (Tail n low high bits)) (tail n s at low high bits)
unfolding tail
tail_sound zero s at low high bits l m = gives (bits, at) refl (done refl)
tail_sound (suc n) s at low high bits l m =
    byte_in_then _ _ low high (at + 1) l refl (some_tail (suc n) low high bits m) λ b i j.
    weaken (λ w x d. more (i, j) d) (tail_sound n s (at + 1) 0x80 0xBF _ (omega arith) (omega arith))

-- a code point of two to four bytes is one that need not be escaped
multi : {w : Bytes} {c d : ℕ} → UTF8-char w d → d ≡ c → %x 0x80 0x10_FFFF c → char w c
multi {w} {c} u e r = char.plain {c = c} (subst (UTF8-char w) e u) (unescaped.5D-10FFFF {c = c} (omega arith))

-- table 3-7 row by row
row_2 : {a c : ℕ} {w : Bytes} → %x 0xC2 0xDF a → Tail 1 0x80 0xBF (a - 0xC0) w c → char (a ∷ w) c
row_2 {a} h (more i (done e)) = multi (UTF8-char.of_2 (UTF8-2.C2-DF {a = a} (omega arith) i)) (omega arith) (omega arith)

row_E0 : {c : ℕ} {w : Bytes} → Tail 2 0xA0 0xBF (0xE0 - 0xE0) w c → char (0xE0 ∷ w) c
row_E0 (more {b = b} h (more i (done e))) = multi (UTF8-char.of_3 (UTF8-3.E0 {b = b} (omega arith) i)) (omega arith) (omega arith)

row_E1_EC : {a c : ℕ} {w : Bytes} → %x 0xE1 0xEC a → Tail 2 0x80 0xBF (a - 0xE0) w c → char (a ∷ w) c
row_E1_EC {a} h (more i (more j (done e))) = multi (UTF8-char.of_3 (UTF8-3.E1-EC {a = a} (omega arith) i j)) (omega arith) (omega arith)

row_ED : {c : ℕ} {w : Bytes} → Tail 2 0x80 0x9F (0xED - 0xE0) w c → char (0xED ∷ w) c
row_ED (more {b = b} h (more i (done e))) = multi (UTF8-char.of_3 (UTF8-3.ED {b = b} (omega arith) i)) (omega arith) (omega arith)

row_EE_EF : {a c : ℕ} {w : Bytes} → %x 0xEE 0xEF a → Tail 2 0x80 0xBF (a - 0xE0) w c → char (a ∷ w) c
row_EE_EF {a} h (more i (more j (done e))) = multi (UTF8-char.of_3 (UTF8-3.EE-EF {a = a} (omega arith) i j)) (omega arith) (omega arith)

row_F0 : {c : ℕ} {w : Bytes} → Tail 3 0x90 0xBF (0xF0 - 0xF0) w c → char (0xF0 ∷ w) c
row_F0 (more {b = b} h (more i (more j (done e)))) = multi (UTF8-char.of_4 (UTF8-4.F0 {b = b} (omega arith) i j)) (omega arith) (omega arith)

row_F1_F3 : {a c : ℕ} {w : Bytes} → %x 0xF1 0xF3 a → Tail 3 0x80 0xBF (a - 0xF0) w c → char (a ∷ w) c
row_F1_F3 {a} h (more i (more j (more k (done e)))) = multi (UTF8-char.of_4 (UTF8-4.F1-F3 {a = a} (omega arith) i j k)) (omega arith) (omega arith)

row_F4 : {c : ℕ} {w : Bytes} → Tail 3 0x80 0x8F (0xF4 - 0xF0) w c → char (0xF4 ∷ w) c
row_F4 (more {b = b} h (more i (more j (done e)))) = multi (UTF8-char.of_4 (UTF8-4.F4 {b = b} (omega arith) i j)) (omega arith) (omega arith)

some-char : Some (Means char)
some-char = some (0x20 ∷ []) (0x20, 0) (char.plain (UTF8-char.of_1 (UTF8-1.one (omega arith))) (unescaped.20-21 (omega arith)))

multibyte_sound : (s : Bytes) (at : ℕ) → Sound s end at (Means char) (multibyte s at (byte s at))
unfolding multibyte
multibyte_sound s at =
    row 0xC2 0xDF 1 0x80 0xBF 0xC0 (omega arith) (λ b w c l h. row_2 (l, h)) λ _.
    row 0xE0 0xE0 2 0xA0 0xBF 0xE0 (omega arith) (λ b w c l h. let e : b ≡ 0xE0 = omega arith in rw e row_E0) λ _.
    row 0xE1 0xEC 2 0x80 0xBF 0xE0 (omega arith) (λ b w c l h. row_E1_EC (l, h)) λ _.
    row 0xED 0xED 2 0x80 0x9F 0xE0 (omega arith) (λ b w c l h. let e : b ≡ 0xED = omega arith in rw e row_ED) λ _.
    row 0xEE 0xEF 2 0x80 0xBF 0xE0 (omega arith) (λ b w c l h. row_EE_EF (l, h)) λ _.
    row 0xF0 0xF0 3 0x90 0xBF 0xF0 (omega arith) (λ b w c l h. let e : b ≡ 0xF0 = omega arith in rw e row_F0) λ _.
    row 0xF1 0xF3 3 0x80 0xBF 0xF0 (omega arith) (λ b w c l h. row_F1_F3 (l, h)) λ _.
    row 0xF4 0xF4 3 0x80 0x8F 0xF0 (omega arith) (λ b w c l h. let e : b ≡ 0xF4 = omega arith in rw e row_F4) λ _.
    refuses some-char
  where
    row : (first last n low high base : ℕ) {o : Outcome (ℕ × ℕ)} → (0 < first) × (0 < low) × (low ≤ high) →
        ((b : ℕ) (w : Bytes) (c : ℕ) → first ≤ b → b ≤ last → Tail n low high (b - base) w c → char (b ∷ w) c) →
        (within first last (byte s at) ≡ false → Sound s end at (Means char) o) →
        Sound s end at (Means char) (if within first last (byte s at) then tail n s (at + 1) low high (byte s at - base) else o)
    row first last n low high base bounds derive rest =
        choose (within first last (byte s at))
        (λ e. let (l, h) = within_true first last (byte s at) e in
        past (Means char) (byte s at) (at + 1) (omega arith) refl refl
        (weaken (λ w x d. derive (byte s at) w x.0 l h d) (tail_sound n s (at + 1) low high (byte s at - base) bounds.1 bounds.2)))
        rest

-- hexadecimal digits
hex_digit_lem : (b : ℕ) → hex_value b ≤ 0xF → HEXDIG b (hex_value b)
unfolding hex_value
hex_digit_lem b l = go (within 0x30 0x39 b) refl (within 0x41 0x46 b) refl (within 0x61 0x66 b) refl l
  where
    go : (c : Bool) → within 0x30 0x39 b ≡ c → (d : Bool) → within 0x41 0x46 b ≡ d → (e : Bool) → within 0x61 0x66 b ≡ e →
        (if c then b - 0x30 else if d then b - 0x41 + 10 else if e then b - 0x61 + 10 else 16) ≤ 0xF →
        HEXDIG b (if c then b - 0x30 else if d then b - 0x41 + 10 else if e then b - 0x61 + 10 else 16)
    go true h d i e j l = HEXDIG.digit (within_true _ _ b h)
    go false h true i e j l = HEXDIG.upper_case (within_true _ _ b i)
    go false h false i true j l = HEXDIG.lower_case (within_true _ _ b j)
    go false h false i false j l = absurd (omega arith)

hex_positive : {b h : ℕ} → HEXDIG b h → 0 < b
hex_positive (HEXDIG.digit h) = omega arith
hex_positive (HEXDIG.upper_case h) = omega arith
hex_positive (HEXDIG.lower_case h) = omega arith

hex_in_then : {X : Type 0} {s : Bytes} {place : X → ℕ} {at : ℕ} (P : Bytes → X → Type 0) (g : ℕ → Outcome X) (low high next : ℕ) → high ≤ 0xF →
    next ≡ at + 1 → Some P →
    ((b h : ℕ) → HEXDIG b h → low ≤ h → h ≤ high → Sound s place next (λ w x. P (b ∷ w) x) (g h)) → Sound s place at P (hex_in s at low high >>= g)
unfolding hex_in ◌>>=◌
hex_in_then {s = s} {place = place} {at = at} P g low high next f n some rest = go (within low high (hex_value (byte s at))) refl
  where
    go : (c : Bool) → within low high (hex_value (byte s at)) ≡ c →
        Sound s place at P ((if c then ok (hex_value (byte s at)) else refused not_json at) >>= g)
    go true e =
        let (l, m) = within_true low high (hex_value (byte s at)) e in
        let d = hex_digit_lem (byte s at) (omega arith) in
        past P (byte s at) next (hex_positive d) refl n (rest (byte s at) (hex_value (byte s at)) d l m)
    go false e = refuses some

-- digits to fill up an escape with
hex_0 : HEXDIG 0x30 0x0
hex_0 = HEXDIG.digit {b = 0x30} (omega arith)

hex_C : HEXDIG 0x43 0xC
hex_C = HEXDIG.upper_case {b = 0x43} (omega arith)

hex_D : HEXDIG 0x44 0xD
hex_D = HEXDIG.upper_case {b = 0x44} (omega arith)

-- what follows an escape of the digits u
abbrev AfterUnit : Bytes → Bytes → ℕ → Type 0
AfterUnit u w c = char (0x5C ∷ 0x75 ∷ (u ++ w)) c

-- the escape of a low surrogate after that of a high one
module _ {u : Bytes} {high : ℕ} (escaped : 4HEXDIG u high) (range : %x 0xD800 0xDBFF high) where
  low_digits : {a b c d h i j k : ℕ} → HEXDIG a h → HEXDIG b i → HEXDIG c j → HEXDIG d k → %x 0xD 0xD h → %x 0xC 0xF i → %x 0x0 0xF j → %x 0x0 0xF k →
      AfterUnit u (0x5C ∷ 0x75 ∷ a ∷ b ∷ c ∷ d ∷ []) (0x1_0000 + (high - 0xD800) * 0x400 + ((i - 0xC) * 0x100 + j * 0x10 + k))
  low_digits {a} {b} {c} {d} {h} {i} {j} {k} da db dc dd rh ri rj rk =
      let same : (h * 0x1000 + i * 0x100 + j * 0x10 + k) - 0xDC00 ≡ (i - 0xC) * 0x100 + j * 0x10 + k = omega arith in
      subst (λ low. char (0x5C ∷ 0x75 ∷ (u ++ (0x5C ∷ 0x75 ∷ a ∷ b ∷ c ∷ d ∷ []))) (0x1_0000 + (high - 0xD800) * 0x400 + low)) same
      (char.surrogate_pair escaped range (4HEXDIG.digits da db dc dd) (omega arith))

  low_surrogate_sound : (s : Bytes) (at : ℕ) → Sound s end at (Means (λ w c. AfterUnit u (0x5C ∷ 0x75 ∷ w) c)) (low_surrogate s high at)
  unfolding low_surrogate
  low_surrogate_sound s at =
      hex_in_then _ _ 0xD 0xD (at + 1) (omega arith) refl
      (some _ (_, 0) (low_digits hex_D hex_C hex_0 hex_0 (omega arith) (omega arith) (omega arith) (omega arith))) λ a h da la ha.
      hex_in_then _ _ 0xC 0xF (at + 2) (omega arith) (omega arith)
      (some _ (_, 0) (low_digits da hex_C hex_0 hex_0 (omega arith) (omega arith) (omega arith) (omega arith))) λ b i db lb hb.
      hex_in_then _ _ 0x0 0xF (at + 3) (omega arith) (omega arith)
      (some _ (_, 0) (low_digits da db hex_0 hex_0 (omega arith) (omega arith) (omega arith) (omega arith))) λ c j dc lc hc.
      hex_in_then _ _ 0x0 0xF (at + 4) (omega arith) (omega arith)
      (some _ (_, 0) (low_digits da db dc hex_0 (omega arith) (omega arith) (omega arith) (omega arith))) λ d k dd ld hd.
      gives _ refl (low_digits da db dc dd (la, ha) (lb, hb) (lc, hc) (ld, hd))

  some_low : Some (Means (λ w c. AfterUnit u (0x5C ∷ 0x75 ∷ w) c))
  some_low = some _ (_, 0) (low_digits hex_D hex_C hex_0 hex_0 (omega arith) (omega arith) (omega arith) (omega arith))

  some_after_high : Some (Means (AfterUnit u))
  some_after_high = some (0x5C ∷ 0x75 ∷ some_low.text) some_low.meaning some_low.derived

  after_high_sound : (s : Bytes) (at : ℕ) → Sound s end at (Means (AfterUnit u)) (after_high s high at)
  unfolding after_high
  after_high_sound s at =
      expect_then (Means (AfterUnit u)) 0x5C (at + 1) (omega arith) refl some_after_high
      (expect_then _ 0x75 (at + 2) (omega arith) (omega arith)
      (some (0x75 ∷ some_low.text) some_low.meaning some_low.derived) (low_surrogate_sound s (at + 2)))

-- four digits after \u, the first two of which begin no low surrogate
module _ {a b c d h i j k : ℕ} (da : HEXDIG a h) (db : HEXDIG b i) (dc : HEXDIG c j)
    (dd : HEXDIG d k) (ha : h ≤ 0xF) (hb : i ≤ second_limit h) (hc : j ≤ 0xF) (hd : k ≤ 0xF) where
  unit : ℕ
  unit = h * 0x1000 + i * 0x100 + j * 0x10 + k

  no_low : 0xDBFF < unit → 0xDFFF < unit
  unfolding unit second_limit
  no_low l = go (eqb h 0xD) refl hb
    where
      go : (c : Bool) → eqb h 0xD ≡ c → i ≤ (if c then 0xB else 0xF) → 0xDFFF < unit
      go true e m = absurd (omega (arith, eqb-true h 0xD e))
      go false e m = let other : h ≡ 0xD → ⊥ = eqb-false h 0xD e in omega arith

  unit-char : within 0xD800 0xDBFF unit ≡ false → char (0x5C ∷ 0x75 ∷ a ∷ b ∷ c ∷ d ∷ []) unit
  unfolding unit
  unit-char e = go (dec_lt unit 0xD800)
    where
      go : Dec (unit < 0xD800) → char (0x5C ∷ 0x75 ∷ a ∷ b ∷ c ∷ d ∷ []) unit
      go (yes l) = char.below_surrogates (4HEXDIG.digits da db dc dd) (omega arith)
      go (no l) = char.above_surrogates (4HEXDIG.digits da db dc dd) (no_low (past_range 0xD800 0xDBFF unit e (omega arith)))

  some_unit : Some (Means (AfterUnit (a ∷ b ∷ c ∷ d ∷ [])))
  unfolding unit
  some_unit =
      by_cases (within 0xD800 0xDBFF unit) (λ e. some_after_high (4HEXDIG.digits da db dc dd) (within_true _ _ _ e))
      (λ e. some [] (unit, 0) (unit-char e))

  unit_sound : (s : Bytes) (at : ℕ) →
      Sound s end at (Means (AfterUnit (a ∷ b ∷ c ∷ d ∷ []))) (if within 0xD800 0xDBFF unit then after_high s unit at else ok (unit, at))
  unfolding unit
  unit_sound s at =
      choose (within 0xD800 0xDBFF unit) (λ e. after_high_sound (4HEXDIG.digits da db dc dd) (within_true _ _ _ e) s at)
      (λ e. gives (unit, at) refl (unit-char e))

small_limit : (h : ℕ) → second_limit h ≤ 0xF
unfolding second_limit
small_limit h = by_cases (eqb h 0xD) (λ e. rw e (omega arith)) (λ e. rw e (omega arith))

unicode_escape_sound : (s : Bytes) (at : ℕ) → Sound s end at (Means (AfterUnit [])) (unicode_escape s at)
unfolding unicode_escape unit
unicode_escape_sound s at =
    hex_in_then _ _ 0x0 0xF (at + 1) (omega arith) refl (some_cons 0x30 (some_first hex_0 (omega arith))) λ a h da la ha.
    hex_in_then _ _ 0x0 (second_limit h) (at + 2) (small_limit h) (omega arith) (some_first da ha) λ b i db lb hb.
    hex_in_then _ _ 0x0 0xF (at + 3) (omega arith) (omega arith) (some_second da db ha hb) λ c j dc lc hc.
    hex_in_then _ _ 0x0 0xF (at + 4) (omega arith) (omega arith) (some_third da db dc ha hb hc) λ d k dd ld hd.
    unit_sound da db dc dd ha hb hc hd s (at + 4)
  where
    some_third : {a b c h i j : ℕ} → HEXDIG a h → HEXDIG b i → HEXDIG c j → h ≤ 0xF → i ≤ second_limit h → j ≤ 0xF →
        Some (Means (AfterUnit (a ∷ b ∷ c ∷ [])))
    some_third da db dc ha hb hc = some_cons 0x30 (some_unit da db dc hex_0 ha hb hc (omega arith))

    some_second : {a b h i : ℕ} → HEXDIG a h → HEXDIG b i → h ≤ 0xF → i ≤ second_limit h → Some (Means (AfterUnit (a ∷ b ∷ [])))
    some_second da db ha hb = some_cons 0x30 (some_third da db hex_0 ha hb (omega arith))

    some_first : {a h : ℕ} → HEXDIG a h → h ≤ 0xF → Some (Means (AfterUnit (a ∷ [])))
    some_first {h = h} da ha = some_cons 0x30 (some_second da hex_0 ha (let low : 0 ≤ second_limit h = omega arith in low))

-- the eight escapes of two characters
record Short (b c : ℕ) : Type 0 where
  positive : 0 < b
  derived : char (0x5C ∷ b ∷ []) c

short_escape_lem : (b : ℕ) → (short_escape b ≡ 0 → ⊥) → Short b (short_escape b)
unfolding short_escape
short_escape_lem b =
    try 0x22 char.U+0022 (omega arith) (try 0x5C char.U+005C (omega arith) (try 0x2F char.U+002F (omega arith) (try 0x62 char.U+0008 (omega arith)
    (try 0x66 char.U+000C (omega arith) (try 0x6E char.U+000A (omega arith) (try 0x72 char.U+000D (omega arith) (try 0x74 char.U+0009 (omega arith)
    (λ h. absurd (h refl)))))))))
  where
    try : (a : ℕ) {c o : ℕ} → char (0x5C ∷ a ∷ []) c → 0 < a → ((o ≡ 0 → ⊥) → Short b o) → ((if eqb b a then c else o) ≡ 0 → ⊥) →
        Short b (if eqb b a then c else o)
    try a {c} {o} d l rest = go (eqb b a) refl
      where
        go : (t : Bool) → eqb b a ≡ t → ((if t then c else o) ≡ 0 → ⊥) → Short b (if t then c else o)
        go true e h = let same = eqb-true b a e in record { positive = omega arith; derived = rw same d }
        go false e h = rest h

some_escape : Some (Means (λ w c. char (0x5C ∷ w) c))
some_escape = some (0x22 ∷ []) (0x22, 0) char.U+0022

escape_sound : (s : Bytes) (at : ℕ) → Sound s end at (Means (λ w c. char (0x5C ∷ w) c)) (escape s at)
unfolding escape
escape_sound s at =
    choose (eqb (byte s at) 0x75) (λ e. past _ 0x75 (at + 1) (omega arith) (eqb-true _ _ e) refl (unicode_escape_sound s (at + 1))) λ _.
    choose (eqb (short_escape (byte s at)) 0) (λ e. refuses some_escape) λ e.
    let r = short_escape_lem (byte s at) (eqb-false (short_escape (byte s at)) 0 e) in
    past _ (byte s at) (at + 1) r.positive refl refl (gives (short_escape (byte s at), at + 1) refl r.derived)

-- a byte of ASCII that need not be escaped
plain_sound : (b : ℕ) → %x 0x20 0x7F b → (b ≡ 0x22 → ⊥) → (b ≡ 0x5C → ⊥) → char (b ∷ []) b
plain_sound b h q r = char.plain (UTF8-char.of_1 (UTF8-1.one {a = b} (omega arith))) (go (dec_lt b 0x22) (dec_lt b 0x5C))
  where
    go : Dec (b < 0x22) → Dec (b < 0x5C) → unescaped b
    go (yes l) d = unescaped.20-21 {c = b} (omega arith)
    go (no l) (yes m) = unescaped.23-5B {c = b} (omega arith)
    go (no l) (no m) = unescaped.5D-10FFFF {c = b} (omega arith)

pub character_sound : (s : Bytes) (at : ℕ) → (byte s at ≡ 0x22 → ⊥) → Sound s end at (Means char) (character s at)
unfolding character
character_sound s at quote =
    choose (eqb (byte s at) 0x5C) (λ e. past _ 0x5C (at + 1) (omega arith) (eqb-true _ _ e) refl (escape_sound s (at + 1))) λ e.
    choose (within 0x20 0x7F (byte s at))
    (λ h. let range = within_true _ _ _ h in
    past _ (byte s at) (at + 1) (omega arith) refl refl (gives (byte s at, at + 1) refl (plain_sound (byte s at) range quote (eqb-false _ _ e)))) λ h.
    multibyte_sound s at

-- characters up to the closing quotation mark
data Closed : Bytes → Text → Type 0 where
  mark : Closed (0x22 ∷ []) []
  next : {w ws : Bytes} {c : ℕ} {cs : Text} → char w c → Closed ws cs → Closed (w ++ ws) (c ∷ cs)

record Chars (w : Bytes) (cs : Text) : Type 0 where
  text : Bytes
  derived : *char text cs
  is : w ≡ text ++ (0x22 ∷ [])

chars : {w : Bytes} {cs : Text} → Closed w cs → Chars w cs
chars mark = record { text = []; derived = *char.none; is = refl }
chars (next {w} c d) =
    let r = chars d in
    record { text = w ++ r.text; derived = *char.more c r.derived; is = ap (λ x. w ++ x) r.is ∙ sym (append_assoc w r.text _) }

closed-string : {w : Bytes} {cs : Text} → Closed w cs → string (0x22 ∷ w) cs
closed-string d = go (chars d)
  where
    go : {w : Bytes} {cs : Text} → Chars w cs → string (0x22 ∷ w) cs
    go r = rw r.is (string.quoted r.derived)

some_closed : Some (Means Closed)
some_closed = some (0x22 ∷ []) ([], 0) mark

characters_sound : (fuel : ℕ) (s : Bytes) (at : ℕ) → Sound s end at (Means Closed) (characters fuel s at)
unfolding characters
characters_sound zero s at = refuses some_closed
characters_sound (suc fuel) s at =
    choose (eqb (byte s at) 0x22) (λ e. past _ 0x22 (at + 1) (omega arith) (eqb-true _ _ e) refl (gives ([], at + 1) refl mark)) λ e.
    and_then _ (character_sound s at (eqb-false _ _ e)) (λ w x d. some (0x22 ∷ []) (x.0 ∷ [], 0) (next d mark)) λ w x d.
    finish (λ y. (x.0 ∷ y.0, y.1)) (λ y. refl) (λ w' y d'. next d d') (characters_sound fuel s x.1)

pub string-sound : (s : Bytes) (at : ℕ) → Sound s end at (Means string) (Strings.string s at)
unfolding Strings.string
string-sound s at =
    expect_then _ 0x22 (at + 1) (omega arith) refl (some_cons 0x22 (some (0x22 ∷ []) ([], 0) (closed-string mark)))
    (weaken (λ w x d. closed-string d) (characters_sound (length s) s (at + 1)))
