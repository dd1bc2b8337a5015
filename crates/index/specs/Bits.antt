-- The bits of a text.
use Rattle.std.specs.Prelude.{ℕ, ◌+◌, ◌*◌, ◌/◌, ◌%◌, [], ◌∷◌, ltb, if◌then◌else◌}
use Rattle.spec.specs.Bytes.{Text}
use Rattle.text.specs.Decode.{text_from}
use Rattle.tape.specs.declared.fields.Name.{Name}
use Rattle.tape.specs.Lent.{Texts}
use Rattle.table.specs.Meaning.{part_of}
use Rattle.index.specs.Slots.{room}
use Rattle.index.specs.declared.bits.Bits.{Bits}

-- ---- another hash, which separates names whose first hashes collide
-- it has 28 bits, as the first one has before it is shortened
abbrev pub other_hashes : ℕ
other_hashes = 0x1000_0000

-- the upper bits reach the lower ones
abbrev spread : ℕ → ℕ
spread m = (m + m / 0x4000) % other_hashes

abbrev pub other_mix : ℕ → ℕ → ℕ
other_mix h c = spread ((h + c) * 165_904_091 % other_hashes)

unfoldable pub other_hash_from : ℕ → Text → ℕ
other_hash_from h [] = h
other_hash_from h (c ∷ cs) = other_hash_from (other_mix h c) cs

unfoldable pub other_hash : Text → ℕ
other_hash cs = other_hash_from 0 cs

-- ---- the bits of a name
-- first come those of its hash that did not choose the first slot, the lowest first, with a 1 above them that marks their end
abbrev pub upper_hashes : ℕ
upper_hashes = 0x20

abbrev pub hash_bits : ℕ → ℕ
hash_bits h = upper_hashes + h / room % upper_hashes

-- the bits that are left of a hash, and the characters that are left
abbrev pub Stream : Type 0
Stream = ℕ × Text

-- then come those of the other hash of all the characters, of those from the second on, and so on
unfoldable pub onward : Text → Stream
onward [] = (1, [])
onward (c ∷ cs) = (other_hashes + other_hash (c ∷ cs) % other_hashes, cs)

-- with at least one bit; behind the last character there are ones
unfoldable pub refill : Stream → Stream
refill q = if ltb 1 q.0 then q else onward q.1

-- the next bit, and what is behind it
unfoldable pub bit_of : Stream → ℕ
bit_of q = (refill q).0 % 2

unfoldable pub rest_of : Stream → Stream
rest_of q = ((refill q).0 / 2, (refill q).1)

-- the bits of a name
abbrev pub stream_for : ℕ → Text → Stream
stream_for h name = (hash_bits h, name)

-- what the code has of them
unfoldable pub stream_of : Texts → Name → Bits → Stream
stream_of texts name bits = (bits.left, text_from name.text.form (part_of texts name.text) bits.next)
