-- Where characters and strings end.
use Prim.Native.Nat.{ℕ, zero, suc, ◌+◌, ◌-◌, ◌*◌, ◌≤◌, ◌<◌}
use Prim.Native.Char.{code}
use mathlib.Core.List.{[], ◌∷◌}
use mathlib.Core.Path.{◌≡◌, refl}
use mathlib.Core.Bool.{false, not}
use native.Mathlib.Decide.{dec_lt}
use native.Mathlib.Omega.{arith}
use borrow.Author.Tests.{eqb-true}
use lib.ListN.{length}
use lib.Dec.{eqb}
use Rattle.spec.specs.Outcome.{Outcome, ok, refused}
use Rattle.spec.specs.Refusal.{not_json}
use Rattle.spec.specs.Bytes.{Bytes, Text, byte, within}
use Rattle.spec.specs.Strings.{low_surrogate, after_high, unicode_escape, short_escape, escape, tail, multibyte, character, characters, string}
use Rattle.lexer.proofs.Always.{Always, refuses, gives, result, either, next, weaken}
use Rattle.lexer.proofs.ByteLaws.{byte_past, inside}
use Rattle.lexer.proofs.AnswerLaws.{byte_taken, hex_taken}

-- a byte that makes an escape stands within the text
pub short_escape-inside : (s : Bytes) (at : ℕ) → eqb (short_escape (byte s at)) 0 ≡ false → at < length s
unfolding short_escape
short_escape-inside s at e = inside (λ b. not (eqb (short_escape b) 0)) refl s at (rw e)

-- past the end no character is read
pub character_past_end : (s : Bytes) (at : ℕ) → length s ≤ at → character s at ≡ refused not_json at
unfolding character multibyte within
character_past_end s at h = rw (byte_past s at h)

-- what is read ends past a place and within the text
abbrev pub Past : Bytes → ℕ → ℕ × ℕ → Type 0
Past s at v = (at < v.1) × (v.1 ≤ length s)

module _ (s : Bytes) where
  later : {low at : ℕ} {o : Outcome (ℕ × ℕ)} → low ≤ at → Always (Past s at) o → Always (Past s low) o
  later l a = weaken (λ v h. omega arith) a

  low_surrogate_past : (high at : ℕ) → Always (Past s at) (low_surrogate s high at)
  unfolding low_surrogate
  low_surrogate_past high at =
      next _ λ a e. next _ λ b f. next _ λ c g. next _ λ d h. let k = hex_taken s (at + 3) 0 15 d (omega arith) h in gives _ (omega arith)

  after_high_past : (high at : ℕ) → Always (Past s at) (after_high s high at)
  unfolding after_high
  after_high_past high at = next _ λ a e. next _ λ b f. later (omega arith) (low_surrogate_past high (at + 2))

  unicode_escape_past : (at : ℕ) → Always (Past s at) (unicode_escape s at)
  unfolding unicode_escape
  unicode_escape_past at =
      next _ λ a e. next _ λ b f. next _ λ c g. next _ λ d h.
      let k = hex_taken s (at + 3) 0 15 d (omega arith) h in
      let u = a * 0x1000 + b * 0x100 + c * 0x10 + d in
      either (within 0xD800 0xDBFF u) (λ _. later (omega arith) (after_high_past u (at + 4))) (λ _. gives (u, at + 4) (omega arith))

  pub escape_past : (at : ℕ) → Always (Past s at) (escape s at)
  unfolding escape
  escape_past at =
      let b = byte s at in
      either (eqb b (code "u")) (λ _. later (omega arith) (unicode_escape_past (at + 1))) (λ _.
      either (eqb (short_escape b) 0) (λ _. refuses) (λ e. let k = short_escape-inside s at e in gives (short_escape b, at + 1) (omega arith)))

  tail_past : (more at low high bits : ℕ) → 1 ≤ low → at < length s → Always (Past s at) (tail more s (at + 1) low high bits)
  unfolding tail
  tail_past zero at low high bits l h = gives (bits, at + 1) (omega arith)
  tail_past (suc more) at low high bits l h =
      next _ λ b e.
      let k = byte_taken s (at + 1) low high b l e in
      later (omega arith) (tail_past more (at + 1) 0x80 0xBF _ (omega arith) (omega arith))

  multibyte_past : (at b : ℕ) → at < length s → Always (Past s at) (multibyte s at b)
  unfolding multibyte
  multibyte_past at b h =
      either (within 0xC2 0xDF b) (λ _. tail_past 1 at 0x80 0xBF _ (omega arith) h) (λ _.
      either (within 0xE0 0xE0 b) (λ _. tail_past 2 at 0xA0 0xBF _ (omega arith) h) (λ _.
      either (within 0xE1 0xEC b) (λ _. tail_past 2 at 0x80 0xBF _ (omega arith) h) (λ _.
      either (within 0xED 0xED b) (λ _. tail_past 2 at 0x80 0x9F _ (omega arith) h) (λ _.
      either (within 0xEE 0xEF b) (λ _. tail_past 2 at 0x80 0xBF _ (omega arith) h) (λ _.
      either (within 0xF0 0xF0 b) (λ _. tail_past 3 at 0x90 0xBF _ (omega arith) h) (λ _.
      either (within 0xF1 0xF3 b) (λ _. tail_past 3 at 0x80 0xBF _ (omega arith) h) (λ _.
      either (within 0xF4 0xF4 b) (λ _. tail_past 3 at 0x80 0x8F _ (omega arith) h) (λ _. refuses))))))))

  character-inside : (at : ℕ) → at < length s → Always (Past s at) (character s at)
  unfolding character
  character-inside at h =
      let b = byte s at in
      either (eqb b (code "\\")) (λ _. later (omega arith) (escape_past (at + 1))) (λ _.
      either (within 0x20 0x7F b) (λ _. gives (b, at + 1) (omega arith)) (λ _. multibyte_past at b h))

  -- a character goes forward, within the text
  pub character_past : (at : ℕ) → Always (Past s at) (character s at)
  character_past at = go (dec_lt at (length s))
    where
      go : Dec (at < length s) → Always (Past s at) (character s at)
      go (yes h) = character-inside at h
      go (no h) = rw (character_past_end s at (omega arith)) refuses

pub character_ok_past : (s : Bytes) (at : ℕ) (v : ℕ × ℕ) → character s at ≡ ok v → Past s at v
character_ok_past s at v e = result (rw e at (character_past s at))

-- characters of a string end past a place, within the text, and with a quotation mark
pub record Closed (s : Bytes) (at next : ℕ) : Type 0 where
  pub past : at < next
  pub within : next ≤ length s
  pub quote : byte s (next - 1) ≡ code "\""

characters-closed : (s : Bytes) (fuel at : ℕ) → Always (λ t. Closed s at t.1) (characters fuel s at)
unfolding characters
characters-closed s zero at = refuses
characters-closed s (suc fuel) at =
    either (eqb (byte s at) (code "\"")) (λ e.
    let k = inside (λ b. eqb b (code "\"")) refl s at e in
    let z : at + 1 - 1 ≡ at = omega arith in
    gives ([], at + 1) (record { past = omega arith; within = omega arith; quote = rw z (eqb-true _ _ e) })) (λ _.
    next (character s at) λ v e.
    let l = character_ok_past s at v e in
    next (characters fuel s v.1) λ t f.
    let c : Closed s v.1 t.1 = result (rw f at (characters-closed s fuel v.1)) in
    gives (v.0 ∷ t.0, t.1) (record { past = omega arith; within = c.within; quote = c.quote }))

-- a string has its two quotation marks, and ends with one
pub string-closed : (s : Bytes) (at : ℕ) → Always (λ t. Closed s (at + 1) t.1) (string s at)
unfolding string
string-closed s at = next _ λ b e. characters-closed s (length s) (at + 1)

pub string-ok_closed : (s : Bytes) (at : ℕ) (t : Text × ℕ) → string s at ≡ ok t → Closed s (at + 1) t.1
string-ok_closed s at t e = result (rw e at (string-closed s at))
