-- Laws of records: sums, lines, and their lengths.
use Rattle.std.proofs.Common.{◌≡◌, ℕ, zero, suc, ◌+◌, ◌-◌, ◌*◌, ◌/◌, ◌%◌, ◌<◌, ◌≤◌, [], ◌∷◌, ◌++◌, length, take, drop, refl, ap, append_assoc, add-one}
use Rattle.std.proofs.Common.{arith, length-append, length-drop, drop_of_length-le, length-take, drop-cons, le-ltb, lt-ltb}
use Prim.Native.Char.{code}
use native.Mathlib.Decide.{dec_lt}
use Rattle.spec.specs.Bytes.{Bytes, byte}
use Rattle.intel_hex.specs.Record.{total, body, check, record_bytes, digits, digits_of, line_of, records_from, end_line, hex_of, data_type, end_type}
use Rattle.intel_hex.specs.Record.{line_feed}

-- ---- the rest of a text, from a place on

pub from_here : (s : Bytes) (at : ℕ) → at < length s → drop at s ≡ byte s at ∷ drop (at + 1) s
unfolding byte
from_here s at h = rw (add-one, drop-cons s at 0)

-- ---- sums

module _ (s : Bytes) (at : ℕ) where
  pub total_here : at < length s → total (drop at s) ≡ byte s at + total (drop (at + 1) s)
  unfolding total
  total_here h = rw (from_here s at h)

  pub total_end : length s ≤ at → total (drop at s) ≡ 0
  unfolding total
  total_end h = rw (drop_of_length-le s h)

pub total-append : (s t : Bytes) → total (s ++ t) ≡ total s + total t
unfolding total
total-append [] t = omega arith
total-append (b ∷ s) t = omega (arith, total-append s t)

-- the last byte makes a record's sum zero, and no other byte does
pub check_zero : (s : Bytes) → (total s + check s) % 256 ≡ 0
unfolding check
check_zero s = omega arith

pub check_only : (s : Bytes) (c : ℕ) → c < 256 → (total s + c) % 256 ≡ 0 → c ≡ check s
unfolding check
check_only s c h e = omega arith

pub record_total : (kind address : ℕ) (d : Bytes) → total (record_bytes kind address d) ≡ total (body kind address d) + check (body kind address d)
unfolding record_bytes total
record_total kind address d =
    omega (arith, total-append (body kind address d) (check (body kind address d) ∷ []))

-- ---- digits

pub digits_of-append : (s t : Bytes) → digits_of (s ++ t) ≡ digits_of s ++ digits_of t
unfolding digits_of digits
digits_of-append [] t = refl
digits_of-append (b ∷ s) t = ap (λ u. digits b ++ u) (digits_of-append s t)

pub digits_of-length : (s : Bytes) → length (digits_of s) ≡ 2 * length s
unfolding digits_of digits
digits_of-length [] = refl
digits_of-length (b ∷ s) = omega (arith, digits_of-length s)

module _ (s : Bytes) (at : ℕ) where
  pub digits_of_here : at < length s → digits_of (drop at s) ≡ digits (byte s at) ++ digits_of (drop (at + 1) s)
  unfolding digits_of
  digits_of_here h = rw (from_here s at h)

  pub digits_of_end : length s ≤ at → digits_of (drop at s) ≡ []
  unfolding digits_of
  digits_of_end h = rw (drop_of_length-le s h)

-- ---- a line, piece by piece

pub line_pieces : (kind address : ℕ) (d : Bytes) → line_of (record_bytes kind address d) ≡
    (code ":" ∷ []) ++ (digits_of (length d ∷ address / 256 ∷ address % 256 ∷ kind ∷ []) ++ (digits_of d ++ (digits (check
    (body kind address d)) ++ line_feed ∷ [])))
unfolding line_of record_bytes body digits_of digits
line_pieces kind address d = rw (
  digits_of-append d (check (body kind address d) ∷ []),
  append_assoc (digits_of d) (digits_of (check (body kind address d) ∷ []))
      (line_feed ∷ []),
)

pub line_length_lem : (kind address : ℕ) (d : Bytes) → length (line_of (record_bytes kind address d)) ≡ 2 * length d + 12
unfolding line_of record_bytes body
line_length_lem kind address d =
    let r = record_bytes kind address d in
    omega (arith, length-append (digits_of r) (line_feed ∷ []), digits_of-length r, length-append (body kind address d) (check (body kind address d) ∷ []))

-- ---- how long a text is as records

records_length : (fuel : ℕ) (text : Bytes) (at : ℕ) → length text ≤ fuel + at →
    length (records_from fuel text at) ≡ (length text - at + 15) / 16 * 12 + 2 * (length text - at)
unfolding records_from
records_length zero text at h = omega arith
records_length (suc fuel) text at h = go (dec_lt at (length text)) (records_length fuel text (at + 16) (omega arith))
  where
    go : Dec (at < length text) → length (records_from fuel text (at + 16)) ≡ (length text - (at + 16) + 15) / 16 * 12 + 2 * (length text - (at + 16)) →
        length (records_from (suc fuel) text at) ≡ (length text - at + 15) / 16 * 12 + 2 * (length text - at)
    go (yes l) ih =
        let d = take 16 (drop at text) in
        rw (lt-ltb at (length text) l)
        (omega (
          arith,
          length-append (line_of (record_bytes data_type at d)) (records_from fuel text (at + 16)),
          line_length_lem data_type at d,
          length-take 16
              (drop at text),
          length-drop at text,
          ih,
        ))
    go (no l) ih = rw (le-ltb at (length text) (omega arith)) (omega arith)

pub hex_length : (text : Bytes) → length (hex_of text) ≡ (length text + 15) / 16 * 12 + 2 * length text + 12
unfolding hex_of end_line
hex_length text =
    omega (arith, length-append (records_from (length text) text 0) end_line, records_length (length text) text 0 (omega arith), line_length_lem end_type 0 [])

-- ---- the records from a place on

module _ (fuel : ℕ) (text : Bytes) (at : ℕ) where
  pub records_here : at < length text →
      records_from (suc fuel) text at ≡ line_of (record_bytes data_type at (take 16 (drop at text))) ++ records_from fuel text (at + 16)
  unfolding records_from
  records_here h = rw (lt-ltb at (length text) h)

pub records_end : (fuel : ℕ) (text : Bytes) (at : ℕ) → length text ≤ at → records_from fuel text at ≡ []
unfolding records_from
records_end zero text at h = refl
records_end (suc fuel) text at h = rw (le-ltb at (length text) h)
