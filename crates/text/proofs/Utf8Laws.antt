-- A character that was read from UTF-8 is written as the bytes that it was read from.
use mathlib.Core.Path.{◌≡◌, sym, ◌∙◌}
use mathlib.Core.Bool.{false, true≢false}
use mathlib.Core.List.{[], ◌∷◌}
use Prim.Native.Nat.{ℕ, ◌+◌, ◌-◌, ◌*◌, ◌/◌, ◌%◌, ◌≤◌, ◌<◌}
use Prim.Native.Char.{code}
use native.Mathlib.Omega.{arith}
use lib.ListN.{length}
use lib.Dec.{eqb}
use borrow.Author.Tests.{eqb-false, ne_eqb, le-leb, lt-ltb, le-ltb}
use Rattle.spec.specs.Bytes.{Bytes, byte, within}
use Rattle.spec.specs.Strings.{tail, multibyte, character}
use Rattle.spec.specs.Write.{utf8, write_character}
use Rattle.lexer.specs.Names.{part}
use Rattle.lexer.proofs.Always.{Always, refuses, gives, either, next}
use Rattle.lexer.proofs.Tests.{within_bounds}
use Rattle.lexer.proofs.AnswerLaws.{byte_taken, byte_is}
use Rattle.lexer.proofs.NameLaws.{part_cons, part_empty}

-- the UTF-8 of a code point of two, three and four bytes
utf8-two : (a b : ℕ) → 2 ≤ a → a < 32 → b < 64 → utf8 (a * 64 + b) ≡ (0xC0 + a) ∷ (0x80 + b) ∷ []
unfolding utf8
utf8-two a b l m n =
    let first : (a * 64 + b) / 64 ≡ a = omega arith in
    let second : (a * 64 + b) % 64 ≡ b = omega arith in
    rw (le-ltb (a * 64 + b) 0x80 (omega arith), lt-ltb (a * 64 + b) 0x800 (omega arith), first, second)

utf8-three : (a b d : ℕ) → 32 ≤ a * 64 + b → a < 16 → b < 64 → d < 64 → utf8 ((a * 64 + b) * 64 + d) ≡ (0xE0 + a) ∷ (0x80 + b) ∷ (0x80 + d) ∷ []
unfolding utf8
utf8-three a b d l m n o =
    let c = (a * 64 + b) * 64 + d in
    let first : c / 4096 ≡ a = omega arith in
    let second : c / 64 % 64 ≡ b = omega arith in
    let third : c % 64 ≡ d = omega arith in
    rw (le-ltb c 0x80 (omega arith), le-ltb c 0x800 (omega arith), lt-ltb c 0x1_0000 (omega arith), first, second, third)

utf8-four : (a b d e : ℕ) → 16 ≤ a * 64 + b → a < 8 → b < 64 → d < 64 → e < 64 →
    utf8 (((a * 64 + b) * 64 + d) * 64 + e) ≡ (0xF0 + a) ∷ (0x80 + b) ∷ (0x80 + d) ∷ (0x80 + e) ∷ []
unfolding utf8
utf8-four a b d e l m n o p =
    let c = ((a * 64 + b) * 64 + d) * 64 + e in
    let first : c / 262144 ≡ a = omega arith in
    let second : c / 4096 % 64 ≡ b = omega arith in
    let third : c / 64 % 64 ≡ d = omega arith in
    let fourth : c % 64 ≡ e = omega arith in
    rw (le-ltb c 0x80 (omega arith), le-ltb c 0x800 (omega arith), le-ltb c 0x1_0000 (omega arith), first, second, third, fourth)

-- a character that is no escape is written in UTF-8
raw : (c : ℕ) → 0x20 ≤ c → (c ≡ code "\"" → ⊥) → (c ≡ code "\\" → ⊥) → write_character c ≡ utf8 c
unfolding write_character
raw c l m n = rw (ne_eqb c (code "\"") m, ne_eqb c (code "\\") n, le-leb 0x20 c l)

-- what is written of a character is the bytes from a place to the one after it; and it is a code point
pub record Same (s : Bytes) (at : ℕ) (v : ℕ × ℕ) : Type 0 where
  pub bytes : write_character v.0 ≡ part s at v.1
  pub bound : v.0 < 0x11_0000

module _ (s : Bytes) (at : ℕ) (h : at < length s) where
  two : (0xC2 ≤ byte s at) × (byte s at ≤ 0xDF) → Always (Same s at) (tail 1 s (at + 1) 0x80 0xBF (byte s at - 0xC0))
  unfolding tail
  two l =
      next _ λ b e.
      let j = byte_taken s (at + 1) 0x80 0xBF b (omega arith) e in
      let b-is = byte_is s (at + 1) 0x80 0xBF b e in
      let a = byte s at - 0xC0 in
      let first : 0xC0 + a ≡ byte s at = omega arith in
      let second : 0x80 + (b - 0x80) ≡ byte s (at + 1) = omega arith in
      gives _
      (record {
        bytes =
            raw (a * 64 + (b - 0x80)) (omega arith) (λ q. omega arith) (λ q. omega arith)
            ∙ utf8-two a (b - 0x80) (omega arith) (omega arith) (omega arith)
            ∙ rw (
              first,
              second,
              part_cons s at (at + 1 + 1) h (omega arith),
              part_cons s (at + 1) (at + 1 + 1) j.here (omega arith),
              part_empty s (at + 1 + 1),
            );
        bound = omega arith;
      })

  -- the last condition keeps out what has a shorter form
  three : (low high : ℕ) → (0x80 ≤ low) × (high ≤ 0xBF) × (0xE0 ≤ byte s at) × (byte s at ≤ 0xEF) × (32 ≤ (byte s at - 0xE0) * 64 + (low - 0x80)) →
      Always (Same s at) (tail 2 s (at + 1) low high (byte s at - 0xE0))
  unfolding tail
  three low high l =
      next _ λ b e. next _ λ d f.
      let j = byte_taken s (at + 1) low high b (omega arith) e in
      let k = byte_taken s (at + 1 + 1) 0x80 0xBF d (omega arith) f in
      let b-is = byte_is s (at + 1) low high b e in
      let d-is = byte_is s (at + 1 + 1) 0x80 0xBF d f in
      let a = byte s at - 0xE0 in
      let first : 0xE0 + a ≡ byte s at = omega arith in
      let second : 0x80 + (b - 0x80) ≡ byte s (at + 1) = omega arith in
      let third : 0x80 + (d - 0x80) ≡ byte s (at + 1 + 1) = omega arith in
      gives _
      (record {
        bytes =
            raw ((a * 64 + (b - 0x80)) * 64 + (d - 0x80)) (omega arith) (λ q. omega arith) (λ q. omega arith)
            ∙ utf8-three a (b - 0x80) (d - 0x80) (omega arith) (omega arith) (omega arith) (omega arith)
            ∙ rw (
              first,
              second,
              third,
              part_cons s at (at + 1 + 1 + 1) h (omega arith),
              part_cons s (at + 1) (at + 1 + 1 + 1) j.here (omega arith),
              part_cons s (at + 1 + 1) (at + 1 + 1 + 1) k.here (omega arith),
              part_empty s (at + 1 + 1 + 1),
            );
        bound = omega arith;
      })

  -- the last two keep out what has a shorter form, and what lies past 10FFFF
  four : (low high : ℕ)
      → (0x80 ≤ low) × (high ≤ 0xBF) × (0xF0 ≤ byte s at) × (16 ≤ (byte s at - 0xF0) * 64 + (low - 0x80)) × ((byte s at - 0xF0) * 64 + (high - 0x80) < 0x110) →
      Always (Same s at) (tail 3 s (at + 1) low high (byte s at - 0xF0))
  unfolding tail
  four low high l =
      next _ λ b e. next _ λ d f. next _ λ g i.
      let j = byte_taken s (at + 1) low high b (omega arith) e in
      let k = byte_taken s (at + 1 + 1) 0x80 0xBF d (omega arith) f in
      let m = byte_taken s (at + 1 + 1 + 1) 0x80 0xBF g (omega arith) i in
      let b-is = byte_is s (at + 1) low high b e in
      let d-is = byte_is s (at + 1 + 1) 0x80 0xBF d f in
      let g-is = byte_is s (at + 1 + 1 + 1) 0x80 0xBF g i in
      let a = byte s at - 0xF0 in
      let first : 0xF0 + a ≡ byte s at = omega arith in
      let second : 0x80 + (b - 0x80) ≡ byte s (at + 1) = omega arith in
      let third : 0x80 + (d - 0x80) ≡ byte s (at + 1 + 1) = omega arith in
      let fourth : 0x80 + (g - 0x80) ≡ byte s (at + 1 + 1 + 1) = omega arith in
      gives _
      (record {
        bytes =
            raw (((a * 64 + (b - 0x80)) * 64 + (d - 0x80)) * 64 + (g - 0x80)) (omega arith) (λ q. omega arith) (λ q. omega arith)
            ∙ utf8-four a (b - 0x80) (d - 0x80) (g - 0x80) (omega arith) (omega arith) (omega arith) (omega arith) (omega arith)
            ∙ rw (
              first,
              second,
              third,
              fourth,
              part_cons s at (at + 1 + 1 + 1 + 1) h (omega arith),
              part_cons s (at + 1) (at + 1 + 1 + 1 + 1) j.here (omega arith),
              part_cons s (at + 1 + 1) (at + 1 + 1 + 1 + 1) k.here (omega arith),
              part_cons s (at + 1 + 1 + 1) (at + 1 + 1 + 1 + 1) m.here (omega arith),
              part_empty s (at + 1 + 1 + 1 + 1),
            );
        bound = omega arith;
      })

  multibyte_same : Always (Same s at) (multibyte s at (byte s at))
  unfolding multibyte
  multibyte_same =
      let b = byte s at in
      either (within 0xC2 0xDF b) (λ t. two (within_bounds 0xC2 0xDF b t)) (λ _.
      either (within 0xE0 0xE0 b) (λ t. let w = within_bounds 0xE0 0xE0 b t in three 0xA0 0xBF (omega arith)) (λ _.
      either (within 0xE1 0xEC b) (λ t. let w = within_bounds 0xE1 0xEC b t in three 0x80 0xBF (omega arith)) (λ _.
      either (within 0xED 0xED b) (λ t. let w = within_bounds 0xED 0xED b t in three 0x80 0x9F (omega arith)) (λ _.
      either (within 0xEE 0xEF b) (λ t. let w = within_bounds 0xEE 0xEF b t in three 0x80 0xBF (omega arith)) (λ _.
      either (within 0xF0 0xF0 b) (λ t. let w = within_bounds 0xF0 0xF0 b t in four 0x90 0xBF (omega arith)) (λ _.
      either (within 0xF1 0xF3 b) (λ t. let w = within_bounds 0xF1 0xF3 b t in four 0x80 0xBF (omega arith)) (λ _.
      either (within 0xF4 0xF4 b) (λ t. let w = within_bounds 0xF4 0xF4 b t in four 0x80 0x8F (omega arith)) (λ _. refuses))))))))

  -- a character that is neither a quotation mark nor an escape
  pub character_same : eqb (byte s at) (code "\"") ≡ false → eqb (byte s at) (code "\\") ≡ false → Always (Same s at) (character s at)
  unfolding character utf8
  character_same q k =
      let b = byte s at in
      either (eqb b (code "\\")) (λ t. absurd (true≢false (sym t ∙ k))) (λ _.
      either (within 0x20 0x7F b) (λ t.
      let w = within_bounds 0x20 0x7F b t in
      gives (b, at + 1)
      (record {
        bytes = raw b (omega arith) (eqb-false b (code "\"") q) (eqb-false b (code "\\") k)
            ∙ rw (lt-ltb b 0x80 (omega arith), part_cons s at (at + 1) h (omega arith), part_empty s (at + 1));
        bound = omega arith;
      })) (λ _. multibyte_same))
