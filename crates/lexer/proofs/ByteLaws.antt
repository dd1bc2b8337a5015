-- Laws of the byte at a place.
use Prim.Native.Nat.{ℕ, ◌+◌, ◌≤◌, ◌<◌}
use mathlib.Core.Path.{◌≡◌, ap, sym, ◌∙◌}
use mathlib.Core.Bool.{Bool, true, false, true≢false}
use native.Mathlib.Decide.{dec_lt}
use native.Mathlib.Omega.{arith}
use lib.ListN.{length, get_or-eq_default}
use borrow.Author.Tests.{lt-ltb, le-ltb}
use Rattle.spec.specs.Bytes.{Bytes, byte}
use Rattle.lexer.specs.Answers.{after_byte, ReadIs}
use Rattle.lexer.specs.declared.cursor.ByteRead.{ByteRead}

-- past the end of a text stands 0
pub byte_past : (s : Bytes) (at : ℕ) → length s ≤ at → byte s at ≡ 0
unfolding byte
byte_past s at h = get_or-eq_default s 0 h

-- a byte that passes a test which 0 does not pass stands within the text
pub inside : (P : ℕ → Bool) → P 0 ≡ false → (s : Bytes) (at : ℕ) → P (byte s at) ≡ true → at < length s
inside P z s at t = go (dec_lt at (length s))
  where
    go : Dec (at < length s) → at < length s
    go (yes h) = h
    go (no h) =
        let e : byte s at ≡ 0 = byte_past s at (omega arith) in
        let n : true ≡ false = cc (z, ap P e) in
        absurd (true≢false n)

-- a byte that is not 0 stands within the text
pub here : (s : Bytes) (at b : ℕ) → byte s at ≡ b → 1 ≤ b → at < length s
here s at b e h = go (dec_lt at (length s))
  where
    go : Dec (at < length s) → at < length s
    go (yes l) = l
    go (no l) = let z : byte s at ≡ 0 = byte_past s at (omega arith) in absurd (omega arith)

-- ---- a byte that is read
after-inside : (s : Bytes) (at : ℕ) → at < length s → after_byte s at ≡ at + 1
unfolding after_byte
after-inside s at h = rw (lt-ltb at (length s) h)

pub read-inside : {s : Bytes} {at : ℕ} {r : ByteRead} → ReadIs s at r → at < length s → r.next.at ≡ at + 1
read-inside {s} {at} i h = i.next_is ∙ after-inside s at h

-- one that is not 0 was there
pub read_here : {s : Bytes} {at : ℕ} {r : ByteRead} → ReadIs s at r → (b : ℕ) → r.byte ≡ b → 1 ≤ b → r.next.at ≡ at + 1
read_here {s} {at} i b e h = read-inside i (here s at b (sym i.byte_is ∙ e) h)

-- each way out of `read`
pub read_past : (s : Bytes) (at : ℕ) {r : ByteRead} → length s ≤ at → r.byte ≡ 0 → r.next.at ≡ at → ReadIs s at r
unfolding after_byte
read_past s at h e n = record { byte_is = e ∙ sym (byte_past s at h); next_is = n ∙ rw (le-ltb at (length s) h) }

pub read_there : (s : Bytes) (at : ℕ) {r : ByteRead} → at < length s → r.byte ≡ byte s at → r.next.at ≡ at + 1 → ReadIs s at r
read_there s at h e n = record { byte_is = e; next_is = n ∙ sym (after-inside s at h) }
