-- A string that was read without escapes is written as it stands.
use mathlib.Core.Path.{◌≡◌, refl, sym, ap, ◌∙◌}
use mathlib.Core.Bool.{Bool, true, false, not, ◌&&◌, true≢false}
use Prim.Native.Nat.{ℕ, ◌+◌, ◌-◌, ◌≤◌, ◌<◌}
use Prim.Native.Char.{code}
use native.Mathlib.Omega.{arith}
use lib.ListN.{length}
use lib.Dec.{eqb}
use Rattle.spec.specs.Outcome.{ok}
use Rattle.spec.specs.Bytes.{Bytes, Text, byte}
use Rattle.spec.specs.Strings.{string}
use Rattle.spec.specs.Write.{write_characters}
use Rattle.spec.proofs.TextLaws.{both_true}
use Rattle.lexer.specs.Names.{part, no_backslash}
use Rattle.lexer.proofs.Always.{result}
use Rattle.lexer.proofs.NameLaws.{part_cons, part_empty, part-append, no_backslash-append}
use Rattle.text.specs.Decode.{character_in}
use Rattle.text.proofs.DecodeLaws.{in_character, in_past, Reads, nothing, one_more, reads_past, string-read}
use Rattle.text.proofs.Utf8Laws.{Same, character_same}

pub in_same : (s : Bytes) (at c next : ℕ) → character_in s at ≡ ok (c, next) → eqb (byte s at) (code "\\") ≡ false → Same s at (c, next)
in_same s at c next e k =
    let (q, f) = in_character s at e in
    let n = in_past s at e in
    result (rw f at (character_same s at (omega arith) q k))

-- the first byte of a part without a backslash is no backslash
no_backslash-first : (s : Bytes) (at to : ℕ) → at < length s → at < to → no_backslash (part s at to) ≡ true → eqb (byte s at) (code "\\") ≡ false
unfolding no_backslash
no_backslash-first s at to h l p = go (eqb (byte s at) (code "\\")) (rw (part_cons s at to h l) at p)
  where
    go : (b : Bool) → (not b && no_backslash (part s (at + 1) to)) ≡ true → b ≡ false
    go true p = absurd (true≢false (sym p))
    go false p = refl

reads_same : {s : Bytes} {at to : ℕ} {cs : Text} → at ≤ length s → Reads s at cs to → no_backslash (part s at to) ≡ true → write_characters cs ≡ part s at to
unfolding write_characters
reads_same {s} {at} l nothing p = sym (part_empty s at)
reads_same {s} {at} {to} l (one_more {c = c} {next = next} e r) p =
    let n = in_past s at e in
    let m = reads_past n.1 r in
    let cut = part-append s at next to (omega arith) m.0 in
    let q : no_backslash (part s next to) ≡ true = (both_true (no_backslash (part s at next)) (no_backslash (part s next to))
    (sym (no_backslash-append (part s at next) (part s next to)) ∙ ap no_backslash (sym cut) ∙ p)).1 in
    let first = (in_same s at c next e (no_backslash-first s at to (omega arith) (omega arith) p)).bytes in
    rw (first, reads_same n.1 r q) (sym cut)

-- its text is written as its part, byte for byte
pub string-same : (s : Bytes) (at : ℕ) (cs : Text) (next : ℕ) → string s at ≡ ok (cs, next) → no_backslash (part s (at + 1) (next - 1)) ≡ true →
    write_characters cs ≡ part s (at + 1) (next - 1)
string-same s at cs next h p =
    let q = string-read s at cs next h in
    let is = q.is in
    let end : next - 1 ≡ q.to = omega arith in
    rw end (reads_same q.inside q.reads (rw end at p))
