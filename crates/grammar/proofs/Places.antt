-- The bytes between two places of a text. The reader goes by places and the grammar by lists of bytes: `From` joins the two.
use Prim.Native.Nat.{ℕ, ◌+◌, ◌-◌, ◌<◌, ◌≤◌}
use mathlib.Core.Path.{◌≡◌, refl, ap, ap₂, sym, ◌∙◌}
use mathlib.Core.List.{[], ◌∷◌, ◌++◌, append_assoc, append-nil}
use native.Mathlib.Nat.{sub-zero}
use native.Mathlib.Omega.{arith}
use native.Mathlib.Decide.{dec_lt}
use native.Mathlib.Numerals.{add-one}
use lib.ListN.{length, take, drop, get_or, length-append, length-drop, get_or-eq_default, get_or-append}
use lib.Seq.{drop-cons, drop-drop, drop-length, get_or-drop, take-append_seam, drop-append_seam}
use Rattle.spec.specs.Bytes.{Bytes, byte}

-- in s the bytes from the place `at` to the place `next` are w
pub record From (s : Bytes) (at : ℕ) (w : Bytes) (next : ℕ) : Type 0 where
  pub rest : drop at s ≡ w ++ drop next s
  pub far : next ≡ at + length w

pub past_end : (s : Bytes) {at : ℕ} → length s ≤ at → byte s at ≡ 0
unfolding byte
past_end s l = get_or-eq_default s 0 l

-- past the end of a text `byte` gives 0, so a byte that is not 0 stands in the text
pub in_text : (s : Bytes) (at : ℕ) → 0 < byte s at → at < length s
in_text s at h = go (dec_lt at (length s))
  where
    go : Dec (at < length s) → at < length s
    go (yes l) = l
    go (no l) = absurd (omega (arith, past_end s {at = at} (omega arith)))

module _ {s : Bytes} where
  pub here : (at : ℕ) → From s at [] at
  here at = record { rest = refl; far = omega arith }

  pub one : (at : ℕ) → at < length s → From s at (byte s at ∷ []) (at + 1)
  unfolding byte
  one at l = record { rest = rw (add-one) (drop-cons s at 0 l); far = refl }

  pub join : {at mid next : ℕ} {w w' : Bytes} → From s at w mid → From s mid w' next → From s at (w ++ w') next
  join {w = w} {w' = w'} f g =
      let a = f.far in
      let b = g.far in
      record { rest = f.rest ∙ ap (λ x. w ++ x) g.rest ∙ sym (append_assoc w w' _); far = omega (arith, length-append w w') }

  -- a byte, and what follows it
  pub cons : {at next : ℕ} {w : Bytes} (b : ℕ) → 0 < b → byte s at ≡ b → From s (at + 1) w next → From s at (b ∷ w) next
  cons {at = at} b h e f = rw (← e) (join (one at (in_text s at (omega arith))) f)

  pub inside : {at next : ℕ} {w : Bytes} → From s at w next → at ≤ length s → next ≤ length s
  inside {at} {next} {w} f l =
      let a = f.far in
      omega (arith, length-drop at s, length-drop next s, ap length f.rest, length-append w (drop next s))

  -- nothing stands after the end
  pub at_end : {at next : ℕ} {w : Bytes} → From s at w next → length s ≤ at → next ≡ at
  at_end {at} {next} {w} f l =
      let a = f.far in
      omega (arith, length-drop at s, ap length f.rest, length-append w (drop next s))

  pub split : {at next : ℕ} (w w' : Bytes) → From s at (w ++ w') next → From s at w (at + length w) × From s (at + length w) w' next
  split {at} {next} w w' f =
      let all = f.rest ∙ append_assoc w w' _ in
      let after : drop (at + length w) s ≡ w' ++ drop next s = sym (drop-drop (length w) at s) ∙ ap (drop (length w)) all ∙ drop-append_seam w _ in
      let a = f.far in (
        record { rest = all ∙ ap (λ x. w ++ x) (sym after); far = refl },
        record { rest = after; far = omega (arith, length-append w w') },
      )

  -- the first byte, and what follows it
  pub first : {at next b : ℕ} {w : Bytes} → From s at (b ∷ w) next → (byte s at ≡ b) × From s (at + 1) w next × (at < length s)
  unfolding byte
  first {at} {next} {b} {w} f =
      let same : at ≡ at + 0 = omega arith in
      let a = f.far in (
        ap (λ x. get_or s x 0) same ∙ sym (get_or-drop at s 0 0) ∙ ap (λ x. get_or x 0 0) f.rest,
        (split (b ∷ []) w f).1,
        omega (arith, length-drop at s, ap length f.rest),
      )

  pub nth : {at next : ℕ} {w : Bytes} → From s at w next → (i : ℕ) → i < length w → byte s (at + i) ≡ get_or w i 0
  unfolding byte
  nth {at} {next} {w} f i l = sym (get_or-drop at s i 0) ∙ ap (λ x. get_or x i 0) f.rest ∙ get_or-append w _ 0 i l

  -- the bytes are determined by the places
  pub bytes : {at next : ℕ} {w : Bytes} → From s at w next → take (next - at) (drop at s) ≡ w
  bytes {at} {next} {w} f =
      let a = f.far in
      let count : next - at ≡ length w = omega arith in
      ap₂ take count f.rest ∙ take-append_seam w _

  pub prefix : {next : ℕ} {w : Bytes} → From s 0 w next → take next s ≡ w
  prefix {next} f = ap (λ n. take n s) (sym (sub-zero next)) ∙ bytes f

  pub whole : {w : Bytes} → From s 0 w (length s) → s ≡ w
  whole {w} f = f.rest ∙ ap (λ x. w ++ x) (drop-length s) ∙ append-nil w

-- a text from its beginning to its end
pub from_whole : (s : Bytes) → From s 0 s (length s)
from_whole s = record { rest = sym (ap (λ x. s ++ x) (drop-length s) ∙ append-nil s); far = omega arith }

-- bytes at the beginning of a text, at its end, and between
pub from_first : (w more : Bytes) → From (w ++ more) 0 w (length w)
from_first w more = record { rest = ap (λ t. w ++ t) (sym (drop-append_seam w more)); far = omega arith }

pub from_rest : (w more : Bytes) → From (w ++ more) (length w) more (length (w ++ more))
from_rest w more =
    record {
      rest = drop-append_seam w more ∙ sym (ap (λ t. more ++ t) (drop-length (w ++ more)) ∙ append-nil more);
      far = length-append w more;
    }

pub from_middle : (w v more : Bytes) → From (w ++ (v ++ more)) (length w) v (length w + length v)
from_middle w v more = (split v more (from_rest w (v ++ more))).0
