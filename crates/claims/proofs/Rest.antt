-- A text from a place on, byte by byte.
use mathlib.Core.Path.{◌≡◌, refl, ap, sym, ◌∙◌}
use mathlib.Core.List.{[], ◌∷◌, ◌++◌}
use mathlib.Core.Bool.{Bool, true, false, ◌&&◌}
use Prim.Native.Nat.{ℕ, ◌+◌, ◌≤◌, ◌<◌}
use native.Mathlib.Nat.{add-zero}
use native.Mathlib.Omega.{arith}
use lib.Dec.{leb}
use lib.ListN.{length, drop, get_or, length-drop}
use lib.Seq.{get_or-drop, drop-drop, drop-append_seam}
use borrow.Author.Tests.{le-leb, lt-leb}
use Rattle.spec.specs.Outcome.{ok}
use Rattle.spec.specs.Bytes.{Bytes, byte, byte_in, within}

-- the text s from the place `at` on is r
pub record Rest (s : Bytes) (at : ℕ) (r : Bytes) : Type 0 where
  pub is : drop at s ≡ r

module _ {s : Bytes} {at : ℕ} where
  pub byte_at : {r : Bytes} → Rest s at r → (k : ℕ) → byte s (at + k) ≡ get_or r k 0
  unfolding byte
  byte_at h k = sym (get_or-drop at s k 0) ∙ ap (λ t. get_or t k 0) h.is

  pub first_byte : {c : ℕ} {r : Bytes} → Rest s at (c ∷ r) → byte s at ≡ c
  first_byte h = ap (byte s) (sym (add-zero at)) ∙ byte_at h 0

  pub rest_more : (t : Bytes) {r : Bytes} → Rest s at (t ++ r) → Rest s (at + length t) r
  rest_more t {r} h = record { is = sym (drop-drop (length t) at s) ∙ ap (drop (length t)) h.is ∙ drop-append_seam t r }

  pub rest_next : {c : ℕ} {r : Bytes} → Rest s at (c ∷ r) → Rest s (at + 1) r
  rest_next {c} h = rest_more (c ∷ []) h

  pub rest_length : {r : Bytes} → Rest s at r → length r ≤ length s
  rest_length h = let e = ap length h.is in omega (arith, length-drop at s)

-- a byte within its bounds
and_false : (b : Bool) → (b && false) ≡ false
and_false true = refl
and_false false = refl

pub within_true : {low high n : ℕ} → low ≤ n → n ≤ high → within low high n ≡ true
unfolding within
within_true {low} {high} {n} l h = rw (le-leb low n l, le-leb n high h)

pub within_low : (low high n : ℕ) → n < low → within low high n ≡ false
unfolding within
within_low low high n l = rw (lt-leb low n l)

pub within_high : (low high n : ℕ) → high < n → within low high n ≡ false
unfolding within
within_high low high n h = rw (lt-leb n high h) (and_false (leb low n))

pub byte_in_ok : (s : Bytes) (at low high n : ℕ) → byte s at ≡ n → low ≤ n → n ≤ high → byte_in s at low high ≡ ok n
unfolding byte_in
byte_in_ok s at low high n e l h = rw (e, within_true l h)
