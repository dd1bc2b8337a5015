-- What a scan from character to character finds of the token that begins at a place.
use mathlib.Core.Path.{◌≡◌, refl, sym, ap, ◌∙◌}
use mathlib.Core.Bool.{Bool, true, false, not}
use mathlib.Core.List.{[], ◌∷◌}
use Prim.Native.Nat.{ℕ, ◌+◌, ◌-◌, ◌<◌, ◌≤◌}
use Prim.Native.Char.{code}
use native.Mathlib.Omega.{arith}
use native.Mathlib.Nat.{sub_self}
use native.Mathlib.Decide.{dec_lt}
use lib.ListN.{length}
use lib.Dec.{eqb}
use borrow.Author.Tests.{eq-eqb, ne_eqb}
use Rattle.spec.specs.Outcome.{ok, refused}
use Rattle.spec.specs.Bytes.{Bytes, Text, byte, within}
use Rattle.spec.specs.Strings.{character}
use Rattle.spec.specs.Pointer.{prepend, segments, tokens}
use Rattle.lexer.specs.Names.{part}
use Rattle.lexer.proofs.Tests.{and_both, within_bounds, between-within}
use Rattle.text.specs.Decode.{character_in, decode, decode_from, decode_loop}
use Rattle.text.proofs.DecodeLaws.{in_past, decode_more, decode_ends, Reads, nothing, one_more, reads_past, reads_part}
use Rattle.pointer.specs.declared.answers.First.TheVariants as First
use Rattle.pointer.specs.declared.answers.Token.{Token}
use Rattle.pointer.specs.Tokens.{tokens_from, tokens_after, Inside, FirstOf, end_of, token_bytes, segments_after, InOrder, TokenAt, continues}

-- ---- a test that is negated

pub not_true : (b : Bool) → not b ≡ true → b ≡ false
not_true true e = sym e
not_true false e = refl

pub not_false : (b : Bool) → not b ≡ false → b ≡ true
not_false true e = refl
not_false false e = sym e

-- ---- what was read of a part

-- a character leaves less of the part
pub character_less : (s : Bytes) (at : ℕ) {c next : ℕ} → character_in s at ≡ ok (c, next) → length s - next < length s - at
character_less s at e = omega (arith, in_past s at e)

reads_order : {s : Bytes} {at to : ℕ} {cs : Text} → Reads s at cs to → at ≤ to
reads_order nothing = omega arith
reads_order {s} {at} (one_more e r) = omega (arith, in_past s at e, reads_order r)

-- past the end of the part nothing is read
reads_outside : {s : Bytes} {at to : ℕ} {cs : Text} → length s < at → Reads s at cs to → decode (part s at to) ≡ cs
unfolding part decode decode_from decode_loop
reads_outside {at = at} l nothing = rw (sub_self at)
reads_outside {s} {at} l (one_more e r) = absurd (omega (arith, in_past s at e))

-- the bytes that were read say what was read
reads_bytes : {s : Bytes} {at to : ℕ} {cs : Text} → Reads s at cs to → decode (part s at to) ≡ cs
reads_bytes {s} {at} {to} {cs} r = go (dec_lt (length s) at)
  where
    go : Dec (length s < at) → decode (part s at to) ≡ cs
    go (yes l) = reads_outside l r
    go (no l) = reads_part (omega arith) r

-- ---- one character of a token

pub segments_slash : (c : ℕ) (t : Text) → c ≡ code "/" → segments (c ∷ t) ≡ [] ∷ segments t
unfolding segments
segments_slash c t e = rw (eq-eqb c (code "/") e)

pub segments_more : (c : ℕ) (t : Text) → (c ≡ code "/" → ⊥) → segments (c ∷ t) ≡ prepend c (segments t)
unfolding segments
segments_more c t e = rw (ne_eqb c (code "/") e)

-- a byte that continues a token is a character, and no slash
pub record Continues (s : Bytes) (at : ℕ) : Type 0 where
  pub reads : character_in s at ≡ ok (byte s at, at + 1)
  pub no_slash : byte s at ≡ code "/" → ⊥
  pub inside : at < length s

pub byte-continues : (s : Bytes) (at : ℕ) → continues (byte s at) ≡ true → Continues s at
unfolding continues character_in character
byte-continues s at h =
    let b = byte s at in
    let both = and_both (within 0x30 0x7F b) (not (eqb b (code "\\"))) h in
    let bounds = within_bounds 0x30 0x7F b both.0 in
    let read : character_in s at ≡ ok (b, at + 1) = rw
    (ne_eqb b (code "\"") (λ e. omega arith), not_true (eqb b (code "\\")) both.1, between-within 0x20 0x7F b (omega arith) bounds.1) in
    record { reads = read; no_slash = λ e. omega arith; inside = omega (arith, in_past s at read) }

-- the same for the byte that the code looked at, and for its answer
pub continued : (s : Bytes) (at : ℕ) {b : ℕ} {r : Bool} → b ≡ byte s at → r ≡ continues b → r ≡ true → Continues s at
continued s at p e t = byte-continues s at (ap continues (sym p) ∙ sym e ∙ t)

-- ---- the scan

abbrev Behind : Bytes → Token → Type 0
Behind s (Token.Last end) = Unit {0}
Behind s (Token.Next end next) = (end < next) × (next ≤ length s)

pub record Scanned (s : Bytes) (at : ℕ) (t : Token) : Type 0 where
  pub read : Text
  pub reads : Reads s at read (end_of t)
  pub splits : segments (decode_from s at) ≡ read ∷ segments_after s t
  pub behind : Behind s t

pub scanned_end : (s : Bytes) (at : ℕ) {number place : ℕ} → character_in s at ≡ refused number place → Scanned s at (Token.Last at)
unfolding end_of segments_after segments
scanned_end s at e = record { read = []; reads = nothing; splits = ap segments (decode_ends s at e); behind = tt }

pub scanned_slash : (s : Bytes) (at c next : ℕ) → character_in s at ≡ ok (c, next) → c ≡ code "/" → Scanned s at (Token.Next at next)
unfolding end_of segments_after
scanned_slash s at c next e h =
    record {
      read = [];
      reads = nothing;
      splits = ap segments (decode_more s at c next e) ∙ segments_slash c _ h;
      behind = in_past s at e;
    }

pub scanned_more : (s : Bytes) (at c next : ℕ) (t : Token) → character_in s at ≡ ok (c, next) → (c ≡ code "/" → ⊥) → Scanned s next t → Scanned s at t
unfolding prepend
scanned_more s at c next t e h r =
    record {
      read = c ∷ r.read;
      reads = one_more e r.reads;
      splits = ap segments (decode_more s at c next e) ∙ segments_more c _ h ∙ ap (prepend c) r.splits;
      behind = r.behind;
    }

in_order : (s : Bytes) (at : ℕ) (t : Token) → Scanned s at t → InOrder s at t
unfolding end_of InOrder
in_order s at (Token.Last end) r = (reads_order r.reads, λ l. (reads_past l r.reads).1)
in_order s at (Token.Next end next) r = (reads_order r.reads, r.behind.0, r.behind.1)

pub scanned_token : (s : Bytes) (at : ℕ) (t : Token) → Scanned s at t → TokenAt s at t
unfolding token_bytes
scanned_token s at t r = record { splits = r.splits ∙ ap (λ u. u ∷ segments_after s t) (sym (reads_bytes r.reads)); in_order = in_order s at t r }

-- ---- the first character

module _ (s : Bytes) where
  pub first_none : {number place : ℕ} → character_in s 0 ≡ refused number place → FirstOf s First.Root
  unfolding decode tokens tokens_after Inside
  first_none e = record { gives = ap tokens (decode_ends s 0 e); inside = tt }

  pub first_slash : (c next : ℕ) → character_in s 0 ≡ ok (c, next) → c ≡ code "/" → FirstOf s (First.At next)
  unfolding decode tokens tokens_after tokens_from Inside
  first_slash c next e h = record { gives = ap tokens (decode_more s 0 c next e) ∙ rw (eq-eqb c (code "/") h); inside = (in_past s 0 e).1 }

  pub first-other : (c next : ℕ) → character_in s 0 ≡ ok (c, next) → (c ≡ code "/" → ⊥) → FirstOf s First.Malformed
  unfolding decode tokens tokens_after Inside
  first-other c next e h = record { gives = ap tokens (decode_more s 0 c next e) ∙ rw (ne_eqb c (code "/") h); inside = tt }
