-- What the definitions come to. proofs/ClaimTheorems proves each.
use Rattle.std.specs.Prelude.{ℕ, ◌+◌, ◌*◌, ◌≤◌, ◌≡◌, [], ◌∷◌, ◌++◌, true, ◌||◌, length}
use Prim.Native.Char.{code}
use Rattle.spec.specs.Limits.{max_bytes}
use Rattle.spec.specs.Bytes.{Bytes, ascii}
use Rattle.spec.specs.Numbers.{is_digit}
use Rattle.spec.specs.Strings.{hex_value}
use Rattle.fragment.specs.Kept.{is_kept, is_alpha, one_of}
use Rattle.fragment.specs.Link.{is_hex, is_pointer}
use Rattle.fragment.specs.Answer.{write_answer, read_answer, success}

-- RFC 3986's set is that of T-14: "ASCII letters, digits and `-._~!$&'()*+,;=:@/?`".
abbrev pub KeptSet : Type 0
KeptSet = (b : ℕ) → is_kept b ≡ (is_alpha b || (is_digit b || one_of (ascii "-._~!$&'()*+,;=:@/?") b))

-- "Reading what was written returns the pointer, where the link is at most 32,768 bytes."
abbrev pub RoundTrip : Type 0
RoundTrip =
    (pointer written : Bytes) (room room' : ℕ) → write_answer pointer room ≡ success written → length written ≤ max_bytes → length pointer ≤ room' →
    read_answer written room' ≡ success pointer

-- the ways to write an octet: as it is, or in percents with digits of either case
pub data Written : ℕ → Bytes → Type 0 where
  raw : {b : ℕ} → is_kept b ≡ true → Written b (b ∷ [])
  percents : {h l : ℕ} → is_hex h ≡ true → is_hex l ≡ true → Written (hex_value h * 16 + hex_value l) (code "%" ∷ h ∷ l ∷ [])

-- a fragment, octet by octet
pub data Spells : Bytes → Bytes → Type 0 where
  none : Spells [] []
  more : {b : ℕ} {x s t : Bytes} → Written b x → Spells s t → Spells (x ++ s) (b ∷ t)

-- two fragments that are the same but for the way in which each octet is written
pub data OnlyPercents : Bytes → Bytes → Type 0 where
  none : OnlyPercents [] []
  more : {b : ℕ} {x y s t : Bytes} → Written b x → Written b y → OnlyPercents s t → OnlyPercents (x ++ s) (y ++ t)

-- a link of a pointer: `#`, and a fragment that spells the pointer
pub record LinkOf (text pointer : Bytes) : Type 0 where
  pub fragment : Bytes
  pub begins : text ≡ code "#" ∷ fragment
  pub spells : Spells fragment pointer

-- Every accepted link names a pointer: the text that is written is one, and the link spells it.
abbrev pub NamesPointer : Type 0
NamesPointer = (text pointer : Bytes) (room : ℕ) → read_answer text room ≡ success pointer → (is_pointer pointer ≡ true) × LinkOf text pointer

-- And every link of a pointer is accepted, where it is at most 32,768 bytes and the output has room.
abbrev pub AllAccepted : Type 0
AllAccepted =
    (text pointer : Bytes) (room : ℕ) → is_pointer pointer ≡ true → LinkOf text pointer → length text ≤ max_bytes → length pointer ≤ room →
    read_answer text room ≡ success pointer

-- Two links with the same pointer differ only in percents.
abbrev pub DifferInPercents : Type 0
DifferInPercents =
    (s t pointer : Bytes) (room room' : ℕ) → read_answer (code "#" ∷ s) room ≡ success pointer →
    read_answer (code "#" ∷ t) room' ≡ success pointer → OnlyPercents s t
