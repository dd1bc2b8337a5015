-- How the code goes through octets, one after another: what of a character is to come, and how far a pointer has been read. proofs/ScanLaws
-- proves that this is UTF-8 and RFC 6901's syntax as Link has them.
use Rattle.std.specs.Prelude.{Option, Some, None, Result, Ok, Err, ℕ, ◌+◌, ◌-◌, ◌<◌, ◌≤◌, ◌≡◌, List, [], ◌∷◌, Bool, true, false, length, get_or, drop, ltb, eqb, if◌then◌else◌}
use Prim.Native.Char.{code}
use Rattle.spec.specs.Outcome.{Outcome, ok, refused}
use Rattle.spec.specs.Bytes.{Bytes, within}
use Rattle.text.specs.Written.{LaidDown}
use Rattle.fragment.specs.Kept.{is_kept}
use Rattle.fragment.specs.Link.{Pending, nothing, octets, precede, bad_link, is_utf8, is_pointer}
use Rattle.fragment.specs.declared.scan.Awaited.{Awaited}
use Rattle.fragment.specs.declared.scan.Syntax.{Syntax}
use Rattle.fragment.specs.Refusal.{refusal_for}
use Rattle.fragment.specs.declared.scan.NotPointer.{NotPointer}
use Rattle.fragment.specs.declared.refusal.LinkRefusal.{LinkRefusal}

-- ---- the table of kept bytes

-- a kept byte stands in its own place, and a different byte stands in the place of any other
pub record KeptTable (table : List ℕ) : Type 0 where
  pub rule : (b : ℕ) → b < 256 → eqb (get_or table b 0) b ≡ is_kept b

-- ---- UTF-8, byte by byte

abbrev pub awaiting : ℕ → ℕ → ℕ → Awaited
awaiting more low high = record { more = more; low = low; high = high }

-- between characters; and where no character goes on, whatever follows
abbrev pub between : Awaited
between = awaiting 0 0x80 0xBF

abbrev pub broken : Awaited
broken = awaiting 1 1 0

-- The bounds of a character's second byte, given the first: table 3-7 of the Unicode standard. They are 80 and BF except after E0, ED, F0 and F4.
unfoldable pub lowest : ℕ → ℕ
lowest b =
    if eqb b 0xE0 then 0xA0 else
    if eqb b 0xF0 then 0x90 else 0x80

unfoldable pub highest : ℕ → ℕ
highest b =
    if eqb b 0xED then 0x9F else
    if eqb b 0xF4 then 0x8F else 0xBF

-- after the first byte of a character
unfoldable pub first_byte : ℕ → Awaited
first_byte b =
    if ltb b 0x80 then between else
    if ltb b 0xC2 then broken else
    if ltb b 0xE0 then awaiting 1 0x80 0xBF else
    if ltb b 0xF0 then awaiting 2 (lowest b) (highest b) else
    if ltb b 0xF5 then awaiting 3 (lowest b) (highest b) else broken

-- after any byte
unfoldable pub next_byte : Awaited → ℕ → Awaited
next_byte a b =
    if eqb a.more 0 then first_byte b else
    if within a.low a.high b then awaiting (a.more - 1) 0x80 0xBF else broken

unfoldable pub awaited : Awaited → Bytes → Awaited
awaited a [] = a
awaited a (b ∷ s) = awaited (next_byte a b) s

-- ---- a pointer, character by character, or byte by byte

unfoldable pub next_syntax : Syntax → ℕ → Syntax
next_syntax Syntax.Start b = if eqb b (code "/") then Syntax.Token else Syntax.Malformed
next_syntax Syntax.Token b = if eqb b (code "~") then Syntax.Tilde else Syntax.Token
next_syntax Syntax.Tilde b =
    if eqb b (code "0") then Syntax.Token else
    if eqb b (code "1") then Syntax.Token else Syntax.Malformed
next_syntax Syntax.Malformed b = Syntax.Malformed

unfoldable pub syntax : Syntax → Bytes → Syntax
syntax y [] = y
syntax y (b ∷ s) = syntax (next_syntax y b) s

-- a pointer may end here
unfoldable pub may_end : Syntax → Bool
may_end Syntax.Start = true
may_end Syntax.Token = true
may_end Syntax.Tilde = false
may_end Syntax.Malformed = false

-- ---- what the bytes are

unfoldable pub judge : Awaited → Syntax → Result (Unit {0}) NotPointer
judge a y =
    if eqb a.more 0 then (if may_end y then Ok tt else Err NotPointer.Malformed) else Err NotPointer.NotUtf8

unfoldable pub verdict : Bytes → Result (Unit {0}) NotPointer
verdict s = if is_utf8 s then (if is_pointer s then Ok tt else Err NotPointer.Malformed) else Err NotPointer.NotUtf8

-- ---- the octets of a fragment

-- the octets from a place on, given the answer there; and that the place after the first octet lies behind it and within the text
unfoldable pub octets_after : Bytes → Option (ℕ × ℕ) → Outcome Bytes
octets_after s (Some r) = precede r.0 (octets nothing (drop r.1 s))
octets_after s None = refused bad_link 0

unfoldable pub Onward : Bytes → ℕ → Option (ℕ × ℕ) → Type 0
Onward s at (Some r) = (at < r.1) × (r.1 ≤ length s)
Onward s at None = Unit {0}

pub record OctetAt (s : Bytes) (at : ℕ) (r : Option (ℕ × ℕ)) : Type 0 where
  pub gives : octets nothing (drop at s) ≡ octets_after s r
  pub onward : Onward s at r

-- the same after a `%`, which stands before the place: the octet of the two digits there
unfoldable pub PercentAt : Bytes → ℕ → Option ℕ → Type 0
PercentAt s at (Some b) = (octets Pending.percent (drop at s) ≡ precede b (octets nothing (drop (at + 2) s))) × (at + 2 ≤ length s)
PercentAt s at None = octets Pending.percent (drop at s) ≡ refused bad_link 0

-- what n octets with this verdict are
abbrev pub counted : ℕ → Result (Unit {0}) NotPointer → Result ℕ LinkRefusal
counted n (Ok u) = Ok n
counted n (Err reason) = Err (refusal_for reason)

-- what a fragment is, by its octets
unfoldable pub fragment_of : Outcome Bytes → Result ℕ LinkRefusal
fragment_of (ok t) = counted (length t) (verdict t)
fragment_of (refused number place) = Err LinkRefusal.BadLink

-- octets, where there are any, laid down at the front of an output
pub record OctetsPut (o : Outcome Bytes) (before after : Bytes) (count : ℕ) : Type 0 where
  pub laid : (t : Bytes) → o ≡ ok t → LaidDown t before after count
