-- A character by the class of its first byte.
use Rattle.std.specs.Prelude.{if◌then◌else◌}
use Prim.Native.Nat.{ℕ, ◌+◌, ◌≤◌, ◌<◌}
use Prim.Native.Char.{code}
use mathlib.Core.Path.{◌≡◌, refl, sym, ◌∙◌}
use mathlib.Core.Bool.{Bool, true, false, true≢false}
use native.Mathlib.Omega.{arith}
use borrow.Author.Tests.{eqb-true, eqb-false, ne_eqb, leb-true, leb-false}
use lib.Dec.{eqb, leb}
use Rattle.spec.specs.Outcome.{Outcome, ok, refused}
use Rattle.spec.specs.Refusal.{not_json}
use Rattle.spec.specs.Bytes.{Bytes, byte, within}
use Rattle.spec.specs.Strings.{escape, multibyte, character}
use Rattle.byte_class.specs.Class.{Class, class_of, symbol}
use Rattle.byte_class.specs.Class.{quote, backslash, control, other-ascii, continuation, first_of_two, first_of_three, first_of_four, never}
use Rattle.lexer.specs.Names.{stands_for_itself}
use Rattle.lexer.specs.ByClass.{second_least, second_most, by_class, CharactersByClass, ItselfByClass}
use Rattle.lexer.proofs.Tests.{within_bounds, between-within, below_within, above_within}

-- ---- the bytes of each class, by their bounds

data Bounds (b : ℕ) : Class → Type 0 where
  at_quote : b ≡ 0x22 → Bounds b quote
  at_backslash : b ≡ 0x5C → Bounds b backslash
  below_20 : b < 0x20 → Bounds b control
  below_80 : 0x20 ≤ b → b ≤ 0x7F → (b ≡ 0x22 → ⊥) → (b ≡ 0x5C → ⊥) → Bounds b other-ascii
  from_80 : 0x80 ≤ b → b ≤ 0xBF → Bounds b continuation
  from_C2 : 0xC2 ≤ b → b ≤ 0xDF → Bounds b first_of_two
  from_E0 : 0xE0 ≤ b → b ≤ 0xEF → Bounds b first_of_three
  from_F0 : 0xF0 ≤ b → b ≤ 0xF4 → Bounds b first_of_four
  below_C2 : 0xC0 ≤ b → b < 0xC2 → Bounds b never
  above_F4 : 0xF4 < b → Bounds b never

either : {b : ℕ} {c d : Class} (t : Bool) → (t ≡ true → Bounds b c) → (t ≡ false → Bounds b d) → Bounds b (if t then c else d)
either true f g = f refl
either false f g = g refl

above : (low high b : ℕ) → within low high b ≡ false → low ≤ b → high < b
above low high b w l = go (leb b high) refl
  where
    go : (t : Bool) → leb b high ≡ t → high < b
    go true e = absurd (true≢false (sym (between-within low high b l (leb-true b high e)) ∙ w))
    go false e = leb-false b high e

bounds_never : (b : ℕ) → 0xBF < b → within 0xC2 0xDF b ≡ false → within 0xE0 0xEF b ≡ false → within 0xF0 0xF4 b ≡ false → Bounds b never
bounds_never b l two three four = go (leb 0xC2 b) refl
  where
    go : (t : Bool) → leb 0xC2 b ≡ t → Bounds b never
    go true e =
        let p = above 0xC2 0xDF b two (leb-true 0xC2 b e) in
        let q = above 0xE0 0xEF b three (omega arith) in
        above_F4 (above 0xF0 0xF4 b four (omega arith))
    go false e = below_C2 (omega arith) (leb-false 0xC2 b e)

bounds : (b : ℕ) → Bounds b (class_of b)
unfolding class_of
bounds b =
    either (eqb b 0x22) (λ t. at_quote (eqb-true _ _ t)) λ n.
    either (eqb b 0x5C) (λ t. at_backslash (eqb-true _ _ t)) λ m.
    either (within 0x00 0x1F b) (λ t. below_20 (omega (arith, within_bounds 0x00 0x1F b t))) λ k.
    let l = above 0x00 0x1F b k (omega arith) in
    either (within 0x20 0x7F b) (λ t. below_80 l (within_bounds 0x20 0x7F b t).1 (eqb-false _ _ n) (eqb-false _ _ m)) λ a.
    let p = above 0x20 0x7F b a l in
    either (within 0x80 0xBF b) (λ t. from_80 p (within_bounds 0x80 0xBF b t).1) λ c.
    let q = above 0x80 0xBF b c p in
    either (within 0xC2 0xDF b) (λ t. from_C2 (within_bounds 0xC2 0xDF b t).0 (within_bounds 0xC2 0xDF b t).1) λ two.
    either (within 0xE0 0xEF b) (λ t. from_E0 (within_bounds 0xE0 0xEF b t).0 (within_bounds 0xE0 0xEF b t).1) λ three.
    either (within 0xF0 0xF4 b) (λ t. from_F0 (within_bounds 0xF0 0xF4 b t).0 (within_bounds 0xF0 0xF4 b t).1) λ four.
    bounds_never b q two three four

-- ---- a character of two to four bytes, by those bounds

module _ (s : Bytes) (at b : ℕ) where
  none_below : b < 0xC2 → multibyte s at b ≡ refused not_json at
  unfolding multibyte
  none_below h =
      rw (
        below_within 0xC2 0xDF b h,
        below_within 0xE0 0xE0 b (omega arith),
        below_within 0xE1 0xEC b (omega arith),
        below_within 0xED 0xED b (omega arith),
        below_within 0xEE 0xEF b (omega arith),
        below_within 0xF0 0xF0 b (omega arith),
        below_within 0xF1 0xF3 b (omega arith),
        below_within 0xF4 0xF4 b (omega arith),
      )

  none_above : 0xF4 < b → multibyte s at b ≡ refused not_json at
  unfolding multibyte
  none_above h =
      rw (
        above_within 0xC2 0xDF b (omega arith),
        above_within 0xE0 0xE0 b (omega arith),
        above_within 0xE1 0xEC b (omega arith),
        above_within 0xED 0xED b (omega arith),
        above_within 0xEE 0xEF b (omega arith),
        above_within 0xF0 0xF0 b (omega arith),
        above_within 0xF1 0xF3 b (omega arith),
        above_within 0xF4 0xF4 b h,
      )

  of_two : 0xC2 ≤ b → b ≤ 0xDF → multibyte s at b ≡ by_class s at b first_of_two
  unfolding multibyte by_class second_least second_most
  of_two l h =
      rw (
        between-within 0xC2 0xDF b l h,
        ne_eqb b 0xE0 (λ e. omega arith),
        ne_eqb b 0xF0 (λ e. omega arith),
        ne_eqb b 0xED (λ e. omega arith),
        ne_eqb b 0xF4 (λ e. omega arith),
      )

  of_three : 0xE0 ≤ b → b ≤ 0xEF → multibyte s at b ≡ by_class s at b first_of_three
  unfolding multibyte by_class second_least second_most within
  of_three l h = go (eqb b 0xE0) (eqb b 0xED) (leb b 0xEC) refl refl refl
    where
      go : (p q t : Bool) → eqb b 0xE0 ≡ p → eqb b 0xED ≡ q → leb b 0xEC ≡ t → multibyte s at b ≡ by_class s at b first_of_three
      go true q t e f g = rw (eqb-true b 0xE0 e)
      go false true t e f g = rw (eqb-true b 0xED f)
      go false false true e f g =
          let n = eqb-false b 0xE0 e in
          rw (
            above_within 0xC2 0xDF b (omega arith),
            above_within 0xE0 0xE0 b (omega arith),
            between-within 0xE1 0xEC b (omega arith) (leb-true b 0xEC g),
            e,
            f,
            ne_eqb b 0xF0 (λ e. omega arith),
            ne_eqb b 0xF4 (λ e. omega arith),
          )
      go false false false e f g =
          let m = leb-false b 0xEC g in
          let n = eqb-false b 0xED f in
          rw (
            above_within 0xC2 0xDF b (omega arith),
            above_within 0xE0 0xE0 b (omega arith),
            above_within 0xE1 0xEC b m,
            above_within 0xED 0xED b (omega arith),
            between-within 0xEE 0xEF b (omega arith) h,
            e,
            f,
            ne_eqb b 0xF0 (λ e. omega arith),
            ne_eqb b 0xF4 (λ e. omega arith),
          )

  of_four : 0xF0 ≤ b → b ≤ 0xF4 → multibyte s at b ≡ by_class s at b first_of_four
  unfolding multibyte by_class second_least second_most within
  of_four l h = go (eqb b 0xF0) (eqb b 0xF4) refl refl
    where
      go : (p q : Bool) → eqb b 0xF0 ≡ p → eqb b 0xF4 ≡ q → multibyte s at b ≡ by_class s at b first_of_four
      go true q e f = rw (eqb-true b 0xF0 e)
      go false true e f = rw (eqb-true b 0xF4 f)
      go false false e f =
          let m = eqb-false b 0xF0 e in
          let n = eqb-false b 0xF4 f in
          rw (
            above_within 0xC2 0xDF b (omega arith),
            above_within 0xE0 0xE0 b (omega arith),
            above_within 0xE1 0xEC b (omega arith),
            above_within 0xED 0xED b (omega arith),
            above_within 0xEE 0xEF b (omega arith),
            above_within 0xF0 0xF0 b (omega arith),
            between-within 0xF1 0xF3 b (omega arith) (omega arith),
            e,
            f,
            ne_eqb b 0xE0 (λ e. omega arith),
            ne_eqb b 0xED (λ e. omega arith),
          )

  -- ---- any character

  abbrev Begun : Outcome (ℕ × ℕ)
  Begun = if eqb b (code "\\") then escape s (at + 1) else if within 0x20 0x7F b then ok (b, at + 1) else multibyte s at b

  long : 0x7F < b → Begun ≡ multibyte s at b
  long h = rw (ne_eqb b 0x5C (λ e. omega arith), above_within 0x20 0x7F b h)

  begun : {c : Class} → Bounds b c → Begun ≡ by_class s at b c
  unfolding by_class within
  begun (at_quote e) = rw e
  begun (at_backslash e) = rw e
  begun (below_20 h) = rw (ne_eqb b 0x5C (λ e. omega arith), below_within 0x20 0x7F b h) (none_below (omega arith))
  begun (below_80 l h n m) = rw (ne_eqb b 0x5C m, between-within 0x20 0x7F b l h)
  begun (from_80 l h) = long l ∙ none_below (omega arith)
  begun (from_C2 l h) = long (omega arith) ∙ of_two l h
  begun (from_E0 l h) = long (omega arith) ∙ of_three l h
  begun (from_F0 l h) = long (omega arith) ∙ of_four l h
  begun (below_C2 l h) = long (omega arith) ∙ none_below h
  begun (above_F4 h) = long (omega arith) ∙ none_above h

pub characters-by_class : CharactersByClass
unfolding character
characters-by_class s at = begun s at (byte s at) (bounds (byte s at))

-- ---- a byte that is a character

itself : {b : ℕ} {c : Class} → Bounds b c → stands_for_itself b ≡ eqb (symbol c) (symbol other-ascii)
unfolding stands_for_itself symbol within
itself (at_quote e) = rw e
itself (at_backslash e) = rw e
itself {b} (below_20 h) = rw (below_within 0x20 0x7F b h)
itself {b} (below_80 l h n m) = rw (between-within 0x20 0x7F b l h, ne_eqb b 0x22 n, ne_eqb b 0x5C m)
itself {b} (from_80 l h) = rw (above_within 0x20 0x7F b l)
itself {b} (from_C2 l h) = rw (above_within 0x20 0x7F b (omega arith))
itself {b} (from_E0 l h) = rw (above_within 0x20 0x7F b (omega arith))
itself {b} (from_F0 l h) = rw (above_within 0x20 0x7F b (omega arith))
itself {b} (below_C2 l h) = rw (above_within 0x20 0x7F b (omega arith))
itself {b} (above_F4 h) = rw (above_within 0x20 0x7F b (omega arith))

pub itself_by_class : ItselfByClass
itself_by_class b = itself (bounds b)
