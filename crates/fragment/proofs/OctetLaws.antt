-- The octets of a fragment, from a place of a text on.
use Rattle.std.specs.Prelude.{Option, Some, None, Err}
use Rattle.std.specs.Option.{ok_or}
use Prim.Native.Nat.{ℕ, ◌+◌, ◌*◌, ◌≤◌, ◌<◌}
use Prim.Native.Char.{code}
use mathlib.Core.Path.{◌≡◌, refl, sym, ap, ◌∙◌}
use mathlib.Core.Bool.{true, false}
use mathlib.Core.List.{[], ◌∷◌}
use native.Mathlib.Omega.{arith}
use native.Mathlib.Decide.{dec_lt}
use native.Mathlib.Numerals.{add-one}
use borrow.Author.Tests.{eq-eqb, ne_eqb, lt-ltb, le-ltb}
use lib.ListN.{length, drop, drop_of_length-le}
use lib.Seq.{drop-cons}
use Rattle.spec.specs.Outcome.{refused}
use Rattle.spec.specs.Bytes.{Bytes, byte, within}
use Rattle.spec.specs.Strings.{hex_value}
use Rattle.lexer.proofs.ByteLaws.{inside}
use Rattle.fragment.specs.Kept.{is_kept}
use Rattle.fragment.specs.Link.{bad_link, nothing, percent, digit, is_hex, octets, precede}
use Rattle.fragment.specs.Scan.{octets_after, Onward, OctetAt, PercentAt}

-- ---- the rest of a text, from a place on

pub from_here : (s : Bytes) (at : ℕ) → at < length s → drop at s ≡ byte s at ∷ drop (at + 1) s
unfolding byte
from_here s at h = rw (add-one, drop-cons s at 0)

pub at_end : (s : Bytes) (at : ℕ) → length s ≤ at → drop at s ≡ []
at_end s at h = drop_of_length-le s h

-- ---- hexadecimal digits

is_hex_lem : (b : ℕ) → hex_value b ≤ 15 → is_hex b ≡ true
unfolding is_hex
is_hex_lem b h = lt-ltb (hex_value b) 16 (omega arith)

no_hex : (b : ℕ) → 15 < hex_value b → is_hex b ≡ false
unfolding is_hex
no_hex b h = le-ltb (hex_value b) 16 h

-- a digit stands within the text
hex_inside : (s : Bytes) (at : ℕ) → hex_value (byte s at) ≤ 15 → at < length s
unfolding is_hex hex_value within
hex_inside s at h = inside is_hex refl s at (is_hex_lem (byte s at) h)

-- ---- the two digits after a `%`

module _ (s : Bytes) (at : ℕ) where
  pub bad_first : (hex_value (byte s at) < 16 → ⊥) → PercentAt s at None
  unfolding PercentAt octets
  bad_first n = go (dec_lt at (length s))
    where
      go : Dec (at < length s) → octets percent (drop at s) ≡ refused bad_link 0
      go (yes i) = rw (from_here s at i, no_hex (byte s at) (omega arith))
      go (no i) = rw (at_end s at (omega arith))

  module _ (first : hex_value (byte s at) < 16) where
    here : at < length s
    here = hex_inside s at (omega arith)

    pub bad_second : (hex_value (byte s (at + 1)) < 16 → ⊥) → PercentAt s at None
    unfolding PercentAt octets
    bad_second n = rw (from_here s at here, is_hex_lem (byte s at) (omega arith)) (go (dec_lt (at + 1) (length s)))
      where
        go : Dec (at + 1 < length s) → octets (digit (hex_value (byte s at))) (drop (at + 1) s) ≡ refused bad_link 0
        go (yes i) = rw (from_here s (at + 1) i, no_hex (byte s (at + 1)) (omega arith))
        go (no i) = rw (at_end s (at + 1) (omega arith))

    pub two_digits : hex_value (byte s (at + 1)) < 16 → {b : ℕ} → b ≡ hex_value (byte s at) * 16 + hex_value (byte s (at + 1)) → PercentAt s at (Some b)
    unfolding PercentAt octets
    two_digits g e =
        let next : at + 1 < length s = hex_inside s (at + 1) (omega arith) in
        let place : at + 1 + 1 ≡ at + 2 = omega arith in
        let high = is_hex_lem (byte s at) (omega arith) in
        let low = is_hex_lem (byte s (at + 1)) (omega arith) in
        (rw (from_here s at here, high, from_here s (at + 1) next, low, place, e), omega arith)

-- ---- the octet at a place

module _ (s : Bytes) (at : ℕ) (here : at < length s) {b : ℕ} (is : b ≡ byte s at) where
  module _ (e : b ≡ code "%") where
    after_percent : octets nothing (drop at s) ≡ octets percent (drop (at + 1) s)
    unfolding octets
    after_percent = rw (from_here s at here, eq-eqb (byte s at) (code "%") (sym is ∙ e))

    pub percent_none : PercentAt s (at + 1) None → OctetAt s at None
    unfolding PercentAt octets_after Onward
    percent_none p = record { gives = after_percent ∙ p; onward = tt }

    pub percent_some : {c : ℕ} → PercentAt s (at + 1) (Some c) → OctetAt s at (Some (c, at + 3))
    unfolding PercentAt octets_after Onward
    percent_some {c} p =
        let place : at + 1 + 2 ≡ at + 3 = omega arith in
        record { gives = after_percent ∙ p.0 ∙ ap (λ k. precede c (octets nothing (drop k s))) place; onward = (omega arith, omega (arith, p.1)) }

  module _ (plain : b ≡ code "%" → ⊥) where
    pub octet_kept : is_kept b ≡ true → OctetAt s at (Some (b, at + 1))
    unfolding octets octets_after Onward
    octet_kept k = record { gives = rw (from_here s at here, ← is, ne_eqb b (code "%") plain, k); onward = (omega arith, omega arith) }

    pub octet_bad : is_kept b ≡ false → OctetAt s at None
    unfolding octets octets_after Onward
    octet_bad k = record { gives = rw (from_here s at here, ← is, ne_eqb b (code "%") plain, k); onward = tt }

-- the place after an octet
pub octet_onward : {s : Bytes} {at : ℕ} {r : ℕ × ℕ} → OctetAt s at (Some r) → (at < r.1) × (r.1 ≤ length s)
unfolding Onward
octet_onward o = o.onward

-- an error that stands for what is missing
pub missing : {T E : Type 0} (o : Option T) {e e' : E} → Err e ≡ ok_or o e' → (e ≡ e') × (o ≡ None)
missing None h = (cc, refl)
missing (Some x) h = cc
