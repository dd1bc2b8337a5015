-- The bits of a name, as the code has them: where they begin, the next one, and what is behind it; and that one is left after filling up.
use Prim.Native.Nat.{ℕ, ◌+◌, ◌/◌, ◌%◌, ◌≤◌, ◌<◌}
use mathlib.Core.Path.{◌≡◌, sym, ap, ◌∙◌}
use mathlib.Core.List.{[], ◌∷◌}
use borrow.Author.Tests.{lt-ltb, le-ltb}
use Rattle.spec.specs.Bytes.{Bytes, Text}
use Rattle.text.specs.Decode.{text_from, text_of}
use Rattle.tape.specs.declared.fields.Name.{Name}
use Rattle.tape.specs.Lent.{Texts}
use Rattle.table.specs.Meaning.{part_of, spelled, name_text}
use Rattle.index.specs.declared.bits.Bits.{Bits}
use Rattle.index.specs.Bits.{other_hashes, other_mix, other_hash_from, other_hash, hash_bits, Stream, stream_for, onward, refill, bit_of, rest_of, stream_of}

module _ (T : Texts) (name : Name) where
  pub stream_start : (b : Bits) → b.left ≡ hash_bits name.hash → b.next ≡ 0 → stream_of T name b ≡ stream_for name.hash (name_text T name)
  unfolding stream_of spelled text_of
  stream_start b none first = rw (none, first)

  pub stream_bit : (q : Stream) (filled : Bits) → stream_of T name filled ≡ refill q → filled.left % 2 ≡ bit_of q
  unfolding stream_of bit_of
  stream_bit q filled h = ap (λ p. p.0 % 2) h

  pub stream_rest : (q : Stream) (filled after : Bits) → stream_of T name filled ≡ refill q → after.left ≡ filled.left / 2
      → after.next ≡ filled.next → stream_of T name after ≡ rest_of q
  unfolding stream_of rest_of
  stream_rest q filled after h left next = rw (left, next) (ap (λ p. (p.0 / 2, p.1)) h)

-- ---- filled up: where a bit is left; behind the last character; and where one is read

module _ (T : Texts) (name : Name) (b : Bits) where
  pub filled_still : 1 < b.left → stream_of T name b ≡ refill (stream_of T name b)
  unfolding stream_of refill
  filled_still h = rw (lt-ltb 1 b.left h)

  -- the text is that of the part that the code read, in its form
  module _ {form : ℕ} {s : Bytes} (f : form ≡ name.text.form) (p : s ≡ part_of T name.text) (none : b.left ≤ 1) (after : Bits) where
    pub filled_end : text_from form s b.next ≡ [] → after.left ≡ 1 → after.next ≡ b.next → stream_of T name after ≡ refill (stream_of T name b)
    unfolding stream_of refill onward
    filled_end t left next = rw (left, next, le-ltb 1 b.left none, ← p, ← f, t)

    pub filled_next : (c : ℕ) → text_from form s b.next ≡ c ∷ text_from form s after.next
        → after.left ≡ other_hashes + other_hash (text_from form s b.next) % other_hashes → stream_of T name after ≡ refill (stream_of T name b)
    unfolding stream_of refill onward
    filled_next c t left = rw (left, le-ltb 1 b.left none, ← p, ← f, t)

-- ---- the other hash, character by character
pub other_ends : {h whole : ℕ} {t : Text} → t ≡ [] → other_hash_from h t ≡ whole → h ≡ whole
unfolding other_hash_from
other_ends {h} e f = sym (ap (other_hash_from h) e) ∙ f

pub other_more : (h : ℕ) {next c whole : ℕ} {t u : Text} → t ≡ c ∷ u → next ≡ other_mix h c → other_hash_from h t ≡ whole → other_hash_from next u ≡ whole
unfolding other_hash_from
other_more h {u = u} e m f = ap (λ n. other_hash_from n u) m ∙ sym (ap (other_hash_from h) e) ∙ f
