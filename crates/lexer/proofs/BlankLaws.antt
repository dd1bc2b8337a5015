-- Where blanks end, and the turns of the definition's loop over them.
use Rattle.std.specs.Prelude.{if◌then◌else◌}
use Prim.Native.Nat.{ℕ, zero, suc, ◌+◌, ◌≤◌}
use mathlib.Core.Path.{◌≡◌, refl}
use mathlib.Core.Bool.{Bool, true, false}
use native.Mathlib.Omega.{arith}
use lib.ListN.{length}
use Rattle.spec.specs.Bytes.{Bytes, byte}
use Rattle.spec.specs.Read.{is_blank, blanks_from, blanks}
use Rattle.lexer.proofs.ByteLaws.{inside}

pub not_blank : is_blank 0 ≡ false
unfolding is_blank
not_blank = refl

pub blanks_more : (s : Bytes) (at fuel : ℕ) → is_blank (byte s at) ≡ true → blanks_from (suc fuel) s at ≡ blanks_from fuel s (at + 1)
unfolding blanks_from
blanks_more s at fuel t = rw t

pub blanks_none : (s : Bytes) (at : ℕ) → blanks_from zero s at ≡ at
unfolding blanks_from
blanks_none s at = refl

pub blanks_end : (s : Bytes) (at : ℕ) → is_blank (byte s at) ≡ false → (fuel : ℕ) → blanks_from (suc fuel) s at ≡ at
unfolding blanks_from
blanks_end s at t fuel = rw t

blanks_from_past : (s : Bytes) (fuel at : ℕ) → (at ≤ blanks_from fuel s at) × (at ≤ length s → blanks_from fuel s at ≤ length s)
unfolding blanks_from
blanks_from_past s zero at = (omega arith, λ h. h)
blanks_from_past s (suc fuel) at = go (is_blank (byte s at)) refl (blanks_from_past s fuel (at + 1))
  where
    go : (t : Bool) → is_blank (byte s at) ≡ t →
        (at + 1 ≤ blanks_from fuel s (at + 1)) × (at + 1 ≤ length s → blanks_from fuel s (at + 1) ≤ length s) →
        (at ≤ (if t then blanks_from fuel s (at + 1) else at)) × (at ≤ length s → (if t then blanks_from fuel s (at + 1) else at) ≤ length s)
    go true e r = (omega arith, λ _. let k = inside is_blank not_blank s at e in r.1 (omega arith))
    go false e r = (omega arith, λ h. h)

-- blanks go forward, and within the text
pub blanks_past : (s : Bytes) (at : ℕ) → at ≤ blanks s at
unfolding blanks
blanks_past s at = (blanks_from_past s (length s) at).0

pub blanks-within : (s : Bytes) (at : ℕ) → at ≤ length s → blanks s at ≤ length s
unfolding blanks
blanks-within s at h = (blanks_from_past s (length s) at).1 h
