-- UTF-8 byte by byte: what a byte leads to, in each state.
use Prim.Native.Nat.{ℕ, ◌-◌, ◌≤◌, ◌<◌}
use mathlib.Core.Path.{◌≡◌}
use mathlib.Core.Bool.{true, false}
use native.Mathlib.Omega.{arith}
use borrow.Author.Tests.{eq-eqb, ne_eqb, lt-ltb, le-ltb}
use Rattle.spec.specs.Bytes.{within}
use Rattle.fragment.specs.Scan.{awaiting, between, broken, lowest, highest, first_byte, next_byte}
use Rattle.fragment.specs.declared.scan.Awaited.{Awaited}

-- ---- the first byte of a character

module _ (b : ℕ) where
  pub first-ascii : b < 0x80 → first_byte b ≡ between
  unfolding first_byte
  first-ascii h = rw (lt-ltb b 0x80 h)

  pub first_below : 0x80 ≤ b → b < 0xC2 → first_byte b ≡ broken
  unfolding first_byte
  first_below l h = rw (le-ltb b 0x80 l, lt-ltb b 0xC2 h)

  pub first_two : 0xC2 ≤ b → b < 0xE0 → first_byte b ≡ awaiting 1 0x80 0xBF
  unfolding first_byte
  first_two l h = rw (le-ltb b 0x80 (omega arith), le-ltb b 0xC2 l, lt-ltb b 0xE0 h)

  pub first_three : 0xE0 ≤ b → b < 0xF0 → first_byte b ≡ awaiting 2 (lowest b) (highest b)
  unfolding first_byte
  first_three l h = rw (le-ltb b 0x80 (omega arith), le-ltb b 0xC2 (omega arith), le-ltb b 0xE0 l, lt-ltb b 0xF0 h)

  pub first-four : 0xF0 ≤ b → b < 0xF5 → first_byte b ≡ awaiting 3 (lowest b) (highest b)
  unfolding first_byte
  first-four l h =
      rw (le-ltb b 0x80 (omega arith), le-ltb b 0xC2 (omega arith), le-ltb b 0xE0 (omega arith), le-ltb b 0xF0 l, lt-ltb b 0xF5 h)

  pub first_above : 0xF5 ≤ b → first_byte b ≡ broken
  unfolding first_byte
  first_above l =
      rw (le-ltb b 0x80 (omega arith), le-ltb b 0xC2 (omega arith), le-ltb b 0xE0 (omega arith), le-ltb b 0xF0 (omega arith), le-ltb b 0xF5 l)

-- ---- any byte

module _ (a : Awaited) (b : ℕ) where
  pub next_first : a.more ≡ 0 → next_byte a b ≡ first_byte b
  unfolding next_byte
  next_first e = rw (eq-eqb a.more 0 e)

  module _ (more : a.more ≡ 0 → ⊥) where
    pub next_outside : within a.low a.high b ≡ false → next_byte a b ≡ broken
    unfolding next_byte
    next_outside e = rw (ne_eqb a.more 0 more, e)

    pub next_inside : within a.low a.high b ≡ true → next_byte a b ≡ awaiting (a.more - 1) 0x80 0xBF
    unfolding next_byte
    next_inside e = rw (ne_eqb a.more 0 more, e)
