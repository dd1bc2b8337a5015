-- Texts laid down piece by piece.
use Rattle.std.proofs.Common.{◌≡◌, ℕ, zero, suc, ◌+◌, ◌*◌, ◌/◌, ◌%◌, ◌<◌, ◌≤◌, [], ◌∷◌, length, set, sym, refl, ap, ◌∙◌, arith}
use Prim.Native.Char.{code}
use Rattle.spec.specs.Bytes.{Bytes}
use Rattle.text.specs.Written.{Stored}
use Rattle.text.proofs.LaidLaws.{Laid, laid_starts, laid_on, laid_ends}
use Rattle.text.specs.UpperHex.{upper_hex}
use Rattle.intel_hex.specs.Record.{total, body, check, digits, digits_of, line_of, record_bytes, line_feed}
use Rattle.intel_hex.specs.Reading.{hex_byte, bytes_at}
use Rattle.intel_hex.proofs.RecordLaws.{check_only, line_pieces}

-- one byte
pub byte_stored : (b at : ℕ) {o p : Bytes} → p ≡ set o at b → Stored (b ∷ []) at o p (at + 1)
byte_stored b at e = record { next_is = refl; after_is = e }

-- the two digits of a byte
pub digits_stored : (b at : ℕ) {h l : ℕ} {o p q : Bytes} → h ≡ upper_hex (b / 16) → l ≡ upper_hex (b % 16) → p ≡ set o at h → q ≡ set p (at + 1) l →
    Stored (digits b) at o q (at + 2)
unfolding digits
digits_stored b at {h} {l} {o} high low e f =
    let one : at + 1 ≡ suc at = omega arith in
    record { next_is = refl; after_is = f ∙ rw (e, high, low, one) }

-- ---- the line of a record

head : ℕ → ℕ → Bytes → Bytes
head kind address d = length d ∷ address / 256 ∷ address % 256 ∷ kind ∷ []

-- the last byte, by sums modulo 256
last_byte : (kind address : ℕ) (d : Bytes) {x y z : ℕ} → x ≡ (0 + total (head kind address d)) % 256 → y ≡ (x + total d) % 256 → (z + y) % 256 ≡ 0 → z < 256 →
    z ≡ check (body kind address d)
unfolding head body total
last_byte kind address d {x} {y} {z} e f g h = check_only (body kind address d) z h (omega arith)

pub line_stored : (kind address : ℕ) (d : Bytes) (at : ℕ) {x y z a b e : ℕ} {o p q r s u : Bytes} →
    x ≡ (0 + total (length d ∷ address / 256 ∷ address % 256 ∷ kind ∷ [])) % 256 → y ≡ (x + total d) % 256 → (z + y) % 256 ≡ 0 → z < 256 →
    p ≡ set o at (code ":") → Stored (digits_of (length d ∷ address / 256 ∷ address % 256 ∷ kind ∷ [])) (at + 1) p q a → Stored (digits_of d) a q r b → Stored
    (digits z) b r s e →
    u ≡ set s e line_feed → Stored (line_of (record_bytes kind address d)) at o u (e + 1)
unfolding head
line_stored kind address d at {z = z} {e = e} {o = o} {r = r} {s} i j k l first second third fourth fifth =
    let same : z ≡ check (body kind address d) = last_byte kind address d i j k l in
    let one =
    laid_on (laid_starts at (line_of (record_bytes kind address d)) o) (code ":" ∷ []) (line_pieces kind address d) (byte_stored (code ":") at first) in
    let two = laid_on one (digits_of (length d ∷ address / 256 ∷ address % 256 ∷ kind ∷ [])) refl second in
    let three = laid_on two (digits_of d) refl third in
    let four = laid_on three (digits (check (body kind address d))) refl (rw same at fourth) in
    let five = laid_on four (line_feed ∷ []) {left = []} refl (byte_stored line_feed e fifth) in
    laid_ends five refl

-- ---- the data of a line

pub record Filling (n : ℕ) (t : Bytes) (at : ℕ) (before out : Bytes) (i : ℕ) : Type 0 where
  pub left : ℕ
  pub count_is : n ≡ i + left
  pub laid : Laid at (bytes_at n t 9) (bytes_at left t (9 + 2 * i)) before out (at + i)

pub filling_starts : (n : ℕ) (t : Bytes) (at : ℕ) (out : Bytes) → Filling n t at out out 0
filling_starts n t at out =
    let here : 9 + 2 * 0 ≡ 9 = omega arith in
    let place : at + 0 ≡ at = omega arith in
    record { left = n; count_is = omega arith; laid = rw (here, place) (laid_starts at (bytes_at n t 9) out) }

module _ {n : ℕ} {t : Bytes} {at : ℕ} {before out : Bytes} {i : ℕ} (f : Filling n t at before out i) where
  pub filling_on : {b : ℕ} {out' : Bytes} → i < n → b ≡ hex_byte t (9 + 2 * i) → out' ≡ set out (at + i) b →
      Filling n t at before out' (i + 1)
  unfolding bytes_at
  filling_on {b} {out'} h x w = go f.left f.count_is f.laid
    where
      go : (left : ℕ) → n ≡ i + left → Laid at (bytes_at n t 9) (bytes_at left t (9 + 2 * i)) before out (at + i) →
          Filling n t at before out' (i + 1)
      go zero c l = absurd (omega arith)
      go (suc m) c l =
          let next : 9 + 2 * i + 2 ≡ 9 + 2 * (i + 1) = omega arith in
          let place : at + i + 1 ≡ at + (i + 1) = omega arith in
          record {
            left = m;
            count_is = omega arith;
            laid = rw (← place) (laid_on l (b ∷ []) (ap (λ x. x ∷ bytes_at m t (9 + 2 * i + 2)) (sym x) ∙ ap (λ k. b ∷ bytes_at m t k) next)
                (byte_stored b (at + i) w));
          }

  pub filling_ends : n ≤ i → Stored (bytes_at n t 9) at before out (at + n)
  unfolding bytes_at
  filling_ends h = go f.left f.count_is f.laid
    where
      go : (left : ℕ) → n ≡ i + left → Laid at (bytes_at n t 9) (bytes_at left t (9 + 2 * i)) before out (at + i) →
          Stored (bytes_at n t 9) at before out (at + n)
      go zero c l = let same : at + n ≡ at + i = omega arith in rw same (laid_ends l refl)
      go (suc m) c l = absurd (omega arith)
