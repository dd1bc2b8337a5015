-- How long a character is when it is written: no longer than what it was read from, and so no text is longer than its part.
use Rattle.std.specs.Prelude.{if◌then◌else◌}
use mathlib.Core.Path.{◌≡◌, refl, sym, ap, subst, ◌∙◌}
use mathlib.Core.Bool.{Bool, true, false, true≢false}
use mathlib.Core.List.{[], ◌∷◌}
use Prim.Native.Nat.{ℕ, zero, suc, ◌+◌, ◌*◌, ◌≤◌, ◌<◌}
use Prim.Native.Char.{code}
use native.Mathlib.Omega.{arith}
use lib.ListN.{length, length-append}
use lib.Dec.{eqb, leb, ltb}
use borrow.Author.Tests.{leb-true}
use Rattle.spec.specs.Outcome.{Outcome, ok, refused}
use Rattle.spec.specs.Bytes.{Bytes, Text, ascii, byte, within}
use Rattle.spec.specs.Strings.{second_limit, short_escape, escape, low_surrogate, after_high, unicode_escape, character}
use Rattle.spec.specs.Write.{utf8, write_character, write_characters}
use Rattle.spec.proofs.OutcomeLaws.{refused≢ok, both_ok}
use Rattle.lexer.proofs.Always as Always
use Rattle.lexer.proofs.Always.{Always, refuses, gives, result, next}
use Rattle.lexer.proofs.Tests.{within_bounds}
use Rattle.lexer.proofs.AnswerLaws.{hex_taken}
use Rattle.text.specs.Decode.{character_in, text_from, text_of}
use Rattle.text.specs.Letters.{after_tilde, token_step, token_letter, letter_at}
use Rattle.text.specs.Written.{written}
use Rattle.text.proofs.DecodeLaws.{in_character, in_past, part_length}
use Rattle.text.proofs.LetterLaws.{by_form, step_begins, letter_begins, letter_ends}
use Rattle.text.proofs.PlainLaws.{in_same}

pub record Short (n : ℕ) (x : Bytes) : Type 0 where
  pub fits : length x ≤ n

either : {n : ℕ} (t : Bool) {x y : Bytes} → Short n x → Short n y → Short n (if t then x else y)
either true h i = h
either false h i = i

utf8_short : (c : ℕ) → Short 6 (utf8 c)
unfolding utf8
utf8_short c = either (ltb c 0x80) (omega arith) (either (ltb c 0x800) (omega arith) (either (ltb c 0x1_0000) (omega arith) (omega arith)))

-- no character is written in more than six bytes, as \u and four digits are
pub character_short : (c : ℕ) → Short 6 (write_character c)
unfolding write_character ascii
character_short c =
    either (eqb c (code "\"")) (omega arith) (either (eqb c (code "\\")) (omega arith) (either (leb 0x20 c) (utf8_short c)
    (either (eqb c 0x08) (omega arith) (either (eqb c 0x09) (omega arith) (either (eqb c 0x0A) (omega arith)
    (either (eqb c 0x0C) (omega arith) (either (eqb c 0x0D) (omega arith) (omega arith))))))))

-- a two-character escape stands for a code point that is written in one or two bytes
record Brief (c : ℕ) : Type 0 where
  fits : eqb c 0 ≡ false → length (write_character c) ≤ 2
  bound : c < 0x11_0000

pick : (t : Bool) {a b : ℕ} → Brief a → Brief b → Brief (if t then a else b)
pick true h i = h
pick false h i = i

short_brief : (b : ℕ) → Brief (short_escape b)
unfolding short_escape write_character utf8 ascii
short_brief b =
    pick (eqb b (code "\"")) (brief refl refl)
    (pick (eqb b (code "\\")) (brief refl refl) (pick (eqb b (code "/")) (brief refl refl) (pick (eqb b (code "b")) (brief refl refl)
    (pick (eqb b (code "f")) (brief refl refl)
    (pick (eqb b (code "n")) (brief refl refl) (pick (eqb b (code "r")) (brief refl refl) (pick (eqb b (code "t")) (brief refl refl)
    (record { fits = λ z. absurd (true≢false z); bound = omega arith }))))))))
  where
    brief : {c : ℕ} → leb (length (write_character c)) 2 ≡ true → leb (suc c) 0x11_0000 ≡ true → Brief c
    brief short below = record { fits = λ _. leb-true _ 2 short; bound = leb-true _ 0x11_0000 below }

second_limit_lem : (a : ℕ) → second_limit a ≤ 15
unfolding second_limit
second_limit_lem a = go (eqb a 0xD)
  where
    go : (t : Bool) → (if t then 0xB else 0xF) ≤ 15
    go true = omega arith
    go false = omega arith

-- what is written of a character fits between a place and the one after it; and it is a code point
pub record Fits (at : ℕ) (v : ℕ × ℕ) : Type 0 where
  pub room : at + length (write_character v.0) ≤ v.1
  pub bound : v.0 < 0x11_0000

six_fit : (at c next : ℕ) → at + 6 ≤ next → c < 0x11_0000 → Fits at (c, next)
six_fit at c next l m = record { room = omega (arith, (character_short c).fits); bound = m }

module _ (s : Bytes) (at : ℕ) where
  low_surrogate_fits : (high p : ℕ) → at + 2 ≤ p → high ≤ 0xDBFF → Always (Fits at) (low_surrogate s high p)
  unfolding low_surrogate
  low_surrogate_fits high p l m =
      next _ λ a e. next _ λ b f. next _ λ c g. next _ λ d h.
      let i = hex_taken s (p + 1) 0xC 0xF b (omega arith) f in
      let j = hex_taken s (p + 2) 0x0 0xF c (omega arith) g in
      let k = hex_taken s (p + 3) 0x0 0xF d (omega arith) h in
      gives _ (six_fit at _ (p + 4) (omega arith) (omega arith))

  after_high_fits : (high p : ℕ) → at ≤ p → high ≤ 0xDBFF → Always (Fits at) (after_high s high p)
  unfolding after_high
  after_high_fits high p l m = next _ λ a e. next _ λ b f. low_surrogate_fits high (p + 2) (omega arith) m

  unicode_escape_fits : (p : ℕ) → at + 2 ≤ p → Always (Fits at) (unicode_escape s p)
  unfolding unicode_escape
  unicode_escape_fits p l =
      next _ λ a e. next _ λ b f. next _ λ c g. next _ λ d h.
      let i = hex_taken s p 0x0 0xF a (omega arith) e in
      let j = hex_taken s (p + 1) 0x0 (second_limit a) b (second_limit_lem a) f in
      let k = hex_taken s (p + 2) 0x0 0xF c (omega arith) g in
      let m = hex_taken s (p + 3) 0x0 0xF d (omega arith) h in
      let o = second_limit_lem a in
      let u = a * 0x1000 + b * 0x100 + c * 0x10 + d in
      Always.either (within 0xD800 0xDBFF u) (λ t. after_high_fits u (p + 4) (omega arith) (within_bounds 0xD800 0xDBFF u t).1) (λ _.
      gives (u, p + 4) (six_fit at u (p + 4) (omega arith) (omega arith)))

  escape_fits : Always (Fits at) (escape s (at + 1))
  unfolding escape
  escape_fits =
      let b = byte s (at + 1) in
      Always.either (eqb b (code "u")) (λ _. unicode_escape_fits (at + 1 + 1) (omega arith)) (λ _.
      Always.either (eqb (short_escape b) 0) (λ _. refuses) (λ t.
      gives (short_escape b, at + 1 + 1) (record { room = omega (arith, (short_brief b).fits t); bound = (short_brief b).bound })))

escape_here : (s : Bytes) (at : ℕ) → eqb (byte s at) (code "\\") ≡ true → character s at ≡ escape s (at + 1)
unfolding character
escape_here s at t = rw t

in_fits : (s : Bytes) (at : ℕ) (read : ℕ × ℕ) → character_in s at ≡ ok read → Fits at read
in_fits s at (c, next) e = go (eqb (byte s at) (code "\\")) refl
  where
    n : (at < next) × (next ≤ length s)
    n = in_past s at e

    go : (b : Bool) → eqb (byte s at) (code "\\") ≡ b → Fits at (c, next)
    go true t = result (rw (sym (escape_here s at t) ∙ (in_character s at e).1) at (escape_fits s at))
    go false t = let same = in_same s at c next e t in
        record { room = omega (arith, ap length same.bytes, part_length s at next n.1, n); bound = same.bound }

-- what `~0` and `~1` stand for is written in one byte, and so is a `~` alone
tilde_fits : (at next : ℕ) (o : Outcome (ℕ × ℕ)) → at < (after_tilde o next).1 → Fits at (after_tilde o next)
unfolding after_tilde write_character utf8
tilde_fits at next (ok (d, after)) n = go (eqb d (code "0")) (eqb d (code "1")) n
  where
    go : (zero one : Bool) → let v = if◌then◌else◌ {A = ℕ × ℕ} zero (code "~", after) (if◌then◌else◌ {A = ℕ × ℕ} one (code "/", after) (code "~", next)) in
        at < v.1 → Fits at v
    go true one n = record { room = omega arith; bound = omega arith }
    go false true n = record { room = omega arith; bound = omega arith }
    go false false n = record { room = omega arith; bound = omega arith }
tilde_fits at next (refused number place) n = record { room = omega arith; bound = omega arith }

step_fits : (s : Bytes) (at c next : ℕ) → character_in s at ≡ ok (c, next) → Fits at (token_step s c next)
unfolding token_step
step_fits s at c next e = go (eqb c (code "~")) (step_begins s at c next e).past.0
  where
    go : (escaped : Bool) → let v = if◌then◌else◌ {A = ℕ × ℕ} escaped (after_tilde (character_in s next) next) (c, next) in at < v.1 → Fits at v
    go true n = tilde_fits at next (character_in s next) n
    go false n = in_fits s at (c, next) e

token_fits : (s : Bytes) (at : ℕ) (letter : ℕ × ℕ) → token_letter s at ≡ ok letter → Fits at letter
unfolding token_letter
token_fits s at letter h =
    let ((c, next), e, i) = both_ok (character_in s at) _ letter h in
    let same : token_step s c next ≡ letter = cc in
    subst (Fits at) same (step_fits s at c next e)

-- no letter of a part is written in more bytes than it was read from
pub letter_fits : (form : ℕ) (s : Bytes) (at : ℕ) (letter : ℕ × ℕ) → letter_at form s at ≡ ok letter → Fits at letter
letter_fits form s at letter =
    by_form form s at (λ left o. o ≡ ok letter → Fits at letter) (in_fits s at letter) (token_fits s at letter) (λ h. absurd (refused≢ok h))

-- so no text is written longer than its part
module _ (form : ℕ) (s : Bytes) where
  abbrev Left : ℕ → Type 0
  Left at = at + length (write_characters (text_from form s at)) ≤ length s

  none_left : (at number place : ℕ) → at ≤ length s → letter_at form s at ≡ refused number place → Left at
  unfolding write_characters
  none_left at number place m e = rw (letter_ends form s at number place e) (omega arith)

  more_left : (at c next : ℕ) → letter_at form s at ≡ ok (c, next) → Left next → Left at
  unfolding write_characters
  more_left at c next e ih =
      let f = letter_fits form s at (c, next) e in
      rw ((letter_begins form s at (c, next) e).text, length-append (write_character c) (write_characters (text_from form s next))) (omega arith)

  text_fits : (left at : ℕ) → length s ≤ left + at → at ≤ length s → Left at
  text_fits zero at l m = go (letter_at form s at) refl
    where
      go : (o : Outcome (ℕ × ℕ)) → letter_at form s at ≡ o → Left at
      go (ok letter) e = absurd (omega (arith, (letter_begins form s at letter e).past))
      go (refused number place) e = none_left at number place m e
  text_fits (suc left) at l m = go (letter_at form s at) refl (text_fits left)
    where
      go : (o : Outcome (ℕ × ℕ)) → letter_at form s at ≡ o → ((at : ℕ) → length s ≤ left + at → at ≤ length s → Left at) → Left at
      go (ok (c, next)) e ih = let p = (letter_begins form s at (c, next) e).past in more_left at c next e (ih next (omega arith) p.1)
      go (refused number place) e ih = none_left at number place m e

pub text_short : (form : ℕ) (s : Bytes) → length (write_characters (text_of form s)) ≤ length s
unfolding text_of
text_short form s = omega (arith, text_fits form s (length s) 0 (omega arith) (omega arith))

pub written_short : (form : ℕ) (s : Bytes) → length (written form s) ≤ length s
unfolding written
written_short form s = go (eqb form 1)
  where
    go : (plain : Bool) → length (if plain then s else write_characters (text_of form s)) ≤ length s
    go true = omega arith
    go false = text_short form s

-- ---- the length of a text, character by character

pub length_ends : {t : Text} → t ≡ [] → length (write_characters t) ≡ 0
unfolding write_characters
length_ends e = rw e

pub length_more : {t u : Text} {c : ℕ} → t ≡ c ∷ u → length (write_characters t) ≡ length (write_character c) + length (write_characters u)
unfolding write_characters
length_more {u = u} {c = c} e = rw e (length-append (write_character c) (write_characters u))
