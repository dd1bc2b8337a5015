-- Runs of characters that are written as they are read: what one is made of, and what its text is.
use mathlib.Core.Path.{◌≡◌, refl, sym, ap, ◌∙◌}
use mathlib.Core.Bool.{Bool, true}
use mathlib.Core.List.{[], ◌∷◌, ◌++◌, append_assoc}
use Prim.Native.Nat.{ℕ, ◌+◌, ◌-◌, ◌≤◌}
use Prim.Native.Char.{code}
use native.Mathlib.Omega.{arith}
use lib.ListN.{length, length-append}
use borrow.Author.Tests.{ne_eqb}
use Rattle.spec.specs.Outcome.{ok}
use Rattle.spec.specs.Bytes.{Bytes, byte, ascii}
use Rattle.spec.specs.Strings.{short_escape, character}
use Rattle.spec.specs.Write.{utf8, write_character, write_characters}
use Rattle.std.specs.Prelude.{Result, Ok}
use Rattle.spec.specs.declared.refusal.Fault.{Fault}
use Rattle.lexer.specs.declared.characters.Character.{Character}
use Rattle.lexer.specs.Answers.{character_outcome}
use Rattle.lexer.specs.Names.{part}
use Rattle.lexer.specs.Verbatim.{kept_escape, Verbatim, raw, short}
use Rattle.lexer.proofs.VerbatimLaws.{kept_cases, short_read}
use Rattle.lexer.proofs.NameLaws.{part_cons, part_empty, part-append}
use Rattle.text.specs.Decode.{character_in, text_from, text_of}
use Rattle.text.specs.Letters.{letter_at}
use Rattle.text.specs.Written.{Stored, LaidDown}
use Rattle.text.specs.Runs.{Run, none, more}
use Rattle.text.proofs.DecodeLaws.{in_past, decode_more, part_length}
use Rattle.text.proofs.LetterLaws.{scalar_text, scalar-inside}
use Rattle.text.proofs.PlainLaws.{in_same}
use Rattle.text.proofs.LengthLaws.{text_short, length_more, length_ends}
use Rattle.text.proofs.StoreLaws.{Laying, laying_starts, laying_bound, laying_on, laying_more, laying_ends}

unquoted : (s : Bytes) (at : ℕ) → (byte s at ≡ code "\"" → ⊥) → character_in s at ≡ character s at
unfolding character_in
unquoted s at n = rw (ne_eqb (byte s at) (code "\"") n)

-- an escape that is written as it is read: its two bytes
kept-written : (b : ℕ) → kept_escape b ≡ true → write_character (short_escape b) ≡ code "\\" ∷ b ∷ []
unfolding short_escape write_character utf8 ascii
kept-written b = kept_cases (λ n. write_character (short_escape n) ≡ code "\\" ∷ n ∷ []) b refl refl refl refl refl refl refl

-- ---- what a run is made of

module _ {s : Bytes} {start at : ℕ} (r : Run s start at) where
  -- a character that is neither a quotation mark nor an escape
  run_raw : (c next : ℕ) → (byte s at ≡ code "\"" → ⊥) → (byte s at ≡ code "\\" → ⊥) → character s at ≡ ok (c, next) → Run s start next
  run_raw c next n m e =
      let read = unquoted s at n ∙ e in
      more r read (in_same s at c next read (ne_eqb (byte s at) (code "\\") m)).bytes

  -- an escape that is written as it is read
  run-escape : byte s at ≡ code "\\" → kept_escape (byte s (at + 1)) ≡ true → Run s start (at + 2)
  run-escape b k =
      let read = unquoted s at (λ q. omega arith) ∙ short_read s at b k in
      let n = in_past s at read in
      let two : at + 1 + 1 ≡ at + 2 = omega arith in
      more r read
      (kept-written (byte s (at + 1)) k
      ∙ rw (part_cons s at (at + 2) (omega arith) (omega arith), part_cons s (at + 1) (at + 2) (omega arith) (omega arith), two, part_empty s (at + 2), b))

-- characters that are passed as they stand are a run
pub verbatim_run : {escapes : Bool} {s : Bytes} {start at : ℕ} → Verbatim escapes s start at → Run s start at
verbatim_run Verbatim.none = none
verbatim_run (raw {c = c} {next} p n m e) = run_raw (verbatim_run p) c next n m e
verbatim_run (short p t b k) = run-escape (verbatim_run p) b k

-- ---- what is written of it

pub run_past : {s : Bytes} {start to : ℕ} → Run s start to → start ≤ to
run_past none = omega arith
run_past {s} (more {at} r e f) = omega (arith, in_past s at e, run_past r)

-- a run that starts within the text ends there
pub run_inside : {s : Bytes} {start to : ℕ} → start ≤ length s → Run s start to → to ≤ length s
run_inside l none = l
run_inside {s} l (more {at} r e f) = (in_past s at e).1

written_more : (s : Bytes) (at c next : ℕ) → character_in s at ≡ ok (c, next)
    → write_characters (text_from 2 s at) ≡ write_character c ++ write_characters (text_from 2 s next)
unfolding text_from write_characters
written_more s at c next e = ap write_characters (decode_more s at c next e)

-- its bytes, and then what is written of the rest
pub run-written : {s : Bytes} {start to : ℕ} → Run s start to → write_characters (text_from 2 s start) ≡ part s start to ++ write_characters (text_from 2 s to)
run-written {s} {start} none = ap (λ t. t ++ write_characters (text_from 2 s start)) (sym (part_empty s start))
run-written {s} {start} {to} (more {at} {c} r e f) =
    let n = in_past s at e in
    run-written r
    ∙ ap (λ t. part s start at ++ t) (written_more s at c to e ∙ ap (λ t. t ++ write_characters (text_from 2 s to)) f)
    ∙ sym (append_assoc (part s start at) (part s at to) (write_characters (text_from 2 s to)))
    ∙ ap (λ t. t ++ write_characters (text_from 2 s to)) (sym (part-append s start at to (run_past r) (omega arith)))

run_length : {s : Bytes} {start to : ℕ} → to ≤ length s → Run s start to →
    length (write_characters (text_from 2 s start)) ≡ (to - start) + length (write_characters (text_from 2 s to))
run_length {s} {start} {to} l r =
    ap length (run-written r)
    ∙ length-append (part s start to) (write_characters (text_from 2 s to))
    ∙ ap (λ n. n + length (write_characters (text_from 2 s to))) (part_length s start to l)

-- ---- the length of a string's text, run by run: what was counted before a place

pub record Counted (s : Bytes) (total at : ℕ) : Type 0 where
  pub inside : at ≤ length s
  pub whole : total + length (write_characters (text_from 2 s at)) ≡ length (write_characters (text_of 2 s))

pub counted_starts : (s : Bytes) → Counted s 0 0
unfolding text_of
counted_starts s = record { inside = omega arith; whole = omega arith }

module _ {s : Bytes} {total at : ℕ} (k : Counted s total at) where
  pub counted-run : {to : ℕ} → Run s at to → Counted s (total + (to - at)) to
  counted-run r = let l = run_inside k.inside r in record { inside = l; whole = omega (arith, run_length l r, k.whole) }

  -- a letter that the code read
  pub counted_letter : {n : ℕ} {c : Character} {r : Result Character Fault}
      → character_outcome r ≡ letter_at 2 s at → r ≡ Ok c → n ≡ length (write_character c.code) →
      Counted s (total + n) c.next.at
  counted_letter {n} {c} e t m =
      record { inside = scalar-inside 2 s at e c t; whole = omega (arith, length_more (scalar_text 2 s at e c t), k.whole) }

  pub counted_ends : text_from 2 s at ≡ [] → total ≡ length (write_characters (text_of 2 s))
  counted_ends e = omega (arith, length_ends e, k.whole)

  -- it is no more than the part has
  pub counted_fits : total ≤ length s
  counted_fits = omega (arith, k.whole, text_short 2 s)

-- ---- a string's text laid down, run by run

pub record Writing (s out₀ out : Bytes) (put at : ℕ) : Type 0 where
  pub inside : at ≤ length s
  pub laying : Laying 2 s out₀ out put at

pub writing_starts : (s out : Bytes) → Writing s out out 0 0
writing_starts s out = record { inside = omega arith; laying = laying_starts 2 s out }

module _ {s out₀ out : Bytes} {put at : ℕ} (w : Writing s out₀ out put at) where
  pub writing_run : {to put' : ℕ} {out' : Bytes} → Run s at to → Stored (part s at to) put out out' put' → Writing s out₀ out' put' to
  writing_run {to} r e = record { inside = run_inside w.inside r; laying = laying_on w.laying (part s at to) to (run-written r) e }

  -- what is written up to the end of a run is no longer than the part
  pub writing_fits : {to : ℕ} → Run s at to → put + length (part s at to) ≤ length s
  writing_fits {to} r =
      omega (arith, laying_bound (laying_on w.laying (part s at to) to (run-written r) (record { next_is = refl; after_is = refl })))

  -- a letter that the code read
  pub writing_letter : {put' : ℕ} {c : Character} {r : Result Character Fault} {out' : Bytes} → character_outcome r ≡ letter_at 2 s at → r ≡ Ok c →
      Stored (write_character c.code) put out out' put' → Writing s out₀ out' put' c.next.at
  writing_letter {c} e t p =
      record { inside = scalar-inside 2 s at e c t; laying = laying_more w.laying c.code c.next.at (scalar_text 2 s at e c t) p }

  pub writing_ends : text_from 2 s at ≡ [] → LaidDown (write_characters (text_of 2 s)) out₀ out put
  writing_ends e = laying_ends w.laying e
