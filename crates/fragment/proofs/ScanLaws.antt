-- Bytes looked at one after another: they end between characters exactly where they are UTF-8, and then what was read of a pointer is what its
-- characters come to.
use Rattle.std.specs.Prelude.{if◌then◌else◌, Some, None, Result, Err}
use Prim.Native.Nat.{ℕ, zero, suc, ◌+◌, ◌-◌, ◌*◌, ◌≤◌, ◌<◌}
use mathlib.Core.Path.{◌≡◌, refl, sym, ap, ◌∙◌}
use mathlib.Core.Bool.{Bool, true, false}
use mathlib.Core.List.{[], ◌∷◌}
use native.Mathlib.Omega.{arith}
use native.Mathlib.Decide.{dec_lt}
use borrow.Author.Tests.{eq-eqb, ne_eqb, leb-true, leb-false, ltb-true, ltb-false}
use lib.ListN.{length, drop}
use lib.Dec.{leb, ltb}
use Rattle.spec.specs.Outcome.{Outcome, ok, refused, ◌>>=◌}
use Rattle.spec.specs.Refusal.{not_json}
use Rattle.spec.specs.Bytes.{Bytes, Text, byte, within, byte_in}
use Rattle.spec.specs.Strings.{tail, multibyte}
use Rattle.pointer.specs.Tokens.{accepted}
use Rattle.lexer.proofs.Tests.{within_bounds, below_within, above_within, between-within}
use Rattle.lexer.proofs.ByteLaws.{here}
use Rattle.fragment.specs.Link.{nothing, octets, precede, character_at, characters_from, characters, is_utf8, is_pointer}
use Rattle.fragment.specs.Scan.{awaiting, between, broken, lowest, highest, first_byte, next_byte, awaited, next_syntax, syntax, judge, verdict}
use Rattle.fragment.specs.Scan.{octets_after, Onward, OctetAt, counted, fragment_of}
use Rattle.fragment.specs.declared.scan.Awaited.{Awaited}
use Rattle.fragment.specs.declared.scan.Syntax.{Syntax}
use Rattle.fragment.specs.declared.scan.NotPointer.{NotPointer}
use Rattle.fragment.specs.declared.refusal.LinkRefusal.{LinkRefusal}
use Rattle.fragment.proofs.ByteLaws.{first-ascii, first_below, first_two, first_three, first-four, first_above, next_first, next_outside, next_inside}
use Rattle.fragment.proofs.OctetLaws.{from_here, at_end}
use Rattle.fragment.proofs.SyntaxLaws.{Settled, settles, stays, alike, ends_accepted}

-- ---- one byte

pub awaited_more : (a : Awaited) (s : Bytes) (at : ℕ) → at < length s → awaited a (drop at s) ≡ awaited (next_byte a (byte s at)) (drop (at + 1) s)
unfolding awaited
awaited_more a s at h = rw (from_here s at h)

pub syntax_more : (y : Syntax) (s : Bytes) (at : ℕ) → at < length s → syntax y (drop at s) ≡ syntax (next_syntax y (byte s at)) (drop (at + 1) s)
unfolding syntax
syntax_more y s at h = rw (from_here s at h)

pub awaited_end : (a : Awaited) (s : Bytes) (at : ℕ) → length s ≤ at → awaited a (drop at s) ≡ a
unfolding awaited
awaited_end a s at h = rw (at_end s at h)

pub syntax_end : (y : Syntax) (s : Bytes) (at : ℕ) → length s ≤ at → syntax y (drop at s) ≡ y
unfolding syntax
syntax_end y s at h = rw (at_end s at h)

-- what is broken stays so
no_byte : (b : ℕ) → within 1 0 b ≡ false
no_byte b = go (dec_lt b 1)
  where
    go : Dec (b < 1) → within 1 0 b ≡ false
    go (yes h) = below_within 1 0 b h
    go (no h) = above_within 1 0 b (omega arith)

pub broken_stays : (s : Bytes) → awaited broken s ≡ broken
unfolding awaited
broken_stays [] = refl
broken_stays (b ∷ s) = ap (λ a. awaited a s) (next_outside broken b (λ e. omega arith) (no_byte b)) ∙ broken_stays s

-- ---- the bytes of a character after its first

-- the bits so far and the least that the next byte adds are no code point of ASCII, however many bytes come after it
abbrev Large : ℕ → ℕ → Type 0
Large zero n = 0x80 ≤ n
Large (suc more) n = 2 ≤ n

-- with six bits more it is large, whatever comes
large : (more n : ℕ) → 2 ≤ n → Large more (n * 64 + (0x80 - 0x80))
large zero n h = omega arith
large (suc more) n h = omega arith

data Tailed (s : Bytes) (at : ℕ) (a : Awaited) : Outcome (ℕ × ℕ) → Type 0 where
  cut : {number place : ℕ} → ((awaited a (drop at s)).more ≡ 0 → ⊥) → Tailed s at a (refused number place)
  whole : {c next : ℕ} → at < next → next ≤ length s → 0x80 ≤ c → awaited a (drop at s) ≡ awaited between (drop next s) →
      ((y : Syntax) → Settled y → syntax y (drop at s) ≡ syntax y (drop next s)) → Tailed s at a (ok (c, next))

-- a byte above ASCII before them
tailed_before : {s : Bytes} {at : ℕ} {a a' : Awaited} {o : Outcome (ℕ × ℕ)} → at < length s → 0x80 ≤ byte s at → next_byte a (byte s at) ≡ a' →
    Tailed s (at + 1) a' o → Tailed s at a o
tailed_before {s} {at} {a} h l e (cut n) = cut λ q. n (sym (ap (λ x. x.more) (awaited_more a s at h ∙ ap (λ x. awaited x (drop (at + 1) s)) e)) ∙ q)
tailed_before {s} {at} {a} h l e (whole {next = next} i j k f g) =
    whole {next = next} (omega arith) j k (awaited_more a s at h ∙ ap (λ x. awaited x (drop (at + 1) s)) e ∙ f) λ y t.
    syntax_more y s at h ∙ ap (λ x. syntax x (drop (at + 1) s)) (stays (byte s at) l t) ∙ g y t

module _ (s : Bytes) where
  -- the next byte is not one that may follow
  cut_here : (more at low high : ℕ) {number place : ℕ} → within low high (byte s at) ≡ false →
      Tailed s at (awaiting (suc more) low high) (refused number place)
  cut_here more at low high e =
      let a = awaiting (suc more) low high in
      cut (go a refl (next_outside a (byte s at) (λ z. omega arith) e) (dec_lt at (length s)))
    where
      go : (a : Awaited) → a.more ≡ suc more → next_byte a (byte s at) ≡ broken → Dec (at < length s) → (awaited a (drop at s)).more ≡ 0 → ⊥
      go a m n (yes h) q =
          let f : awaited a (drop at s) ≡ broken = awaited_more a s at h ∙ ap (λ x. awaited x (drop (at + 1) s)) n ∙ broken_stays (drop (at + 1) s) in
          let z : ◌≡◌ {A = ℕ} 1 0 = sym (ap (λ x. x.more) f) ∙ q in omega arith
      go a m n (no h) q = let z : a.more ≡ 0 = sym (ap (λ x. x.more) (awaited_end a s at (omega arith))) ∙ q in omega arith

  -- the next byte is one that may follow, or is not
  tails_step : (more at low high bits : ℕ) →
      (within low high (byte s at) ≡ true → Tailed s at (awaiting (suc more) low high) (tail more s (at + 1) 0x80 0xBF (bits * 64 + (byte s at - 0x80)))) →
      Tailed s at (awaiting (suc more) low high) (tail (suc more) s at low high bits)
  unfolding tail byte_in ◌>>=◌
  tails_step more at low high bits f = go (within low high (byte s at)) refl
    where
      go : (t : Bool) → within low high (byte s at) ≡ t →
          Tailed s at (awaiting (suc more) low high)
          ((if t then ok (byte s at) else refused not_json at) >>= λ b. tail more s (at + 1) 0x80 0xBF (bits * 64 + (b - 0x80)))
      go true e = f e
      go false e = cut_here more at low high e

  module _ (more at low high : ℕ) (l : 0x80 ≤ low) (e : within low high (byte s at) ≡ true) where
    in_bounds : low ≤ byte s at
    in_bounds = (within_bounds low high (byte s at) e).0

    in_text : at < length s
    in_text = here s at (byte s at) refl (omega (arith, in_bounds))

    leads_on : next_byte (awaiting (suc more) low high) (byte s at) ≡ awaiting more 0x80 0xBF
    leads_on =
        let n : suc more - 1 ≡ more = omega arith in
        next_inside (awaiting (suc more) low high) (byte s at) (λ z. omega arith) e ∙ ap (λ m. awaiting m 0x80 0xBF) n

  tails : (more at low high bits : ℕ) → 0x80 ≤ low → Large more (bits * 64 + (low - 0x80)) →
      Tailed s at (awaiting (suc more) low high) (tail (suc more) s at low high bits)
  unfolding tail
  tails zero at low high bits l n =
      tails_step zero at low high bits λ e.
      let g = in_bounds zero at low high l e in
      let h = in_text zero at low high l e in
      whole {c = bits * 64 + (byte s at - 0x80)} {next = at + 1} (omega arith) (omega arith) (omega arith)
      (awaited_more (awaiting 1 low high) s at h ∙ ap (λ x. awaited x (drop (at + 1) s)) (leads_on zero at low high l e)) λ y t.
      syntax_more y s at h ∙ ap (λ x. syntax x (drop (at + 1) s)) (stays (byte s at) (omega arith) t)
  tails (suc more) at low high bits l n =
      tails_step (suc more) at low high bits λ e.
      let g = in_bounds (suc more) at low high l e in
      tailed_before (in_text (suc more) at low high l e) (omega arith) (leads_on (suc more) at low high l e)
      (tails more (at + 1) 0x80 0xBF (bits * 64 + (byte s at - 0x80)) (omega arith) (large more (bits * 64 + (byte s at - 0x80)) (omega arith)))

-- ---- the first byte of a character of two to four: its row in table 3-7

data Row (s : Bytes) (at b : ℕ) : Outcome (ℕ × ℕ) → Type 0 where
  leads : {more low high : ℕ} (bits : ℕ) → first_byte b ≡ awaiting (suc more) low high → 0x80 ≤ low → Large more (bits * 64 + (low - 0x80)) →
      Row s at b (tail (suc more) s (at + 1) low high bits)
  no_row : first_byte b ≡ broken → Row s at b (refused not_json at)

module _ (b : ℕ) where
  usual_low : (b ≡ 0xE0 → ⊥) → (b ≡ 0xF0 → ⊥) → lowest b ≡ 0x80
  unfolding lowest
  usual_low n m = rw (ne_eqb b 0xE0 n, ne_eqb b 0xF0 m)

  usual_high : (b ≡ 0xED → ⊥) → (b ≡ 0xF4 → ⊥) → highest b ≡ 0xBF
  unfolding highest
  usual_high n m = rw (ne_eqb b 0xED n, ne_eqb b 0xF4 m)

  usual_three : 0xE1 ≤ b → b ≤ 0xEF → (b ≡ 0xED → ⊥) → first_byte b ≡ awaiting 2 0x80 0xBF
  usual_three l h n = first_three b (omega arith) (omega arith) ∙ rw (usual_low (λ e. omega arith) (λ e. omega arith), usual_high n (λ e. omega arith))

  usual_four : 0xF1 ≤ b → b ≤ 0xF3 → first_byte b ≡ awaiting 3 0x80 0xBF
  usual_four l h =
      first-four b (omega arith) (omega arith)
      ∙ rw (usual_low (λ e. omega arith) (λ e. omega arith), usual_high (λ e. omega arith) (λ e. omega arith))

  -- a row of one byte computes
  single : (n : ℕ) {a : Awaited} → n ≤ b → b ≤ n → first_byte n ≡ a → first_byte b ≡ a
  single n l h e = let same : b ≡ n = omega arith in ap first_byte same ∙ e

  -- in a row of bytes, or above it
  up_to : (s : Bytes) (at least most : ℕ) {o p : Outcome (ℕ × ℕ)} → least ≤ b → (b ≤ most → Row s at b o) → (most < b → Row s at b p) →
      Row s at b (if within least most b then o else p)
  up_to s at least most {o} {p} l f g = go (dec_lt most b)
    where
      go : Dec (most < b) → Row s at b (if within least most b then o else p)
      go (yes h) = rw (above_within least most b h) (g h)
      go (no h) = rw (between-within least most b l (omega arith)) (f (omega arith))

rows : (s : Bytes) (at b : ℕ) → 0xC2 ≤ b → Row s at b (multibyte s at b)
unfolding multibyte first_byte lowest highest
rows s at b l =
    up_to b s at 0xC2 0xDF l (λ h. leads _ (first_two b l (omega arith)) (omega arith) (omega arith)) λ l.
    up_to b s at 0xE0 0xE0 l (λ h. leads _ (single b 0xE0 l h refl) (omega arith) (omega arith)) λ l.
    up_to b s at 0xE1 0xEC l (λ h. leads _ (usual_three b l (omega arith) (λ e. omega arith)) (omega arith) (omega arith)) λ l.
    up_to b s at 0xED 0xED l (λ h. leads _ (single b 0xED l h refl) (omega arith) (omega arith)) λ l.
    up_to b s at 0xEE 0xEF l (λ h. leads _ (usual_three b (omega arith) h (λ e. omega arith)) (omega arith) (omega arith)) λ l.
    up_to b s at 0xF0 0xF0 l (λ h. leads _ (single b 0xF0 l h refl) (omega arith) (omega arith)) λ l.
    up_to b s at 0xF1 0xF3 l (λ h. leads _ (usual_four b l h) (omega arith) (omega arith)) λ l.
    up_to b s at 0xF4 0xF4 l (λ h. leads _ (single b 0xF4 l h refl) (omega arith) (omega arith)) λ l. no_row (first_above b l)

below_rows : (s : Bytes) (at b : ℕ) → b < 0xC2 → multibyte s at b ≡ refused not_json at
unfolding multibyte
below_rows s at b h =
    rw (
      below_within 0xC2 0xDF b h,
      below_within 0xE0 0xE0 b (omega arith),
      below_within 0xE1 0xEC b (omega arith),
      below_within 0xED 0xED b (omega arith),
      below_within 0xEE 0xEF b (omega arith),
      below_within 0xF0 0xF0 b (omega arith),
      below_within 0xF1 0xF3 b (omega arith),
      below_within 0xF4 0xF4 b (omega arith),
    )

row : (s : Bytes) (at b : ℕ) → 0x80 ≤ b → Row s at b (multibyte s at b)
row s at b l = go (dec_lt b 0xC2)
  where
    go : Dec (b < 0xC2) → Row s at b (multibyte s at b)
    go (yes h) = rw (below_rows s at b h) (no_row (first_below b l h))
    go (no h) = rows s at b (omega arith)

-- ---- one character

data Read (s : Bytes) (at : ℕ) : Outcome (ℕ × ℕ) → Type 0 where
  none : {number place : ℕ} → ((awaited between (drop at s)).more ≡ 0 → ⊥) → Read s at (refused number place)
  one : {c next : ℕ} → at < next → next ≤ length s → awaited between (drop at s) ≡ awaited between (drop next s) →
      ((y : Syntax) → syntax y (drop at s) ≡ syntax (next_syntax y c) (drop next s)) → Read s at (ok (c, next))

module _ (s : Bytes) (at : ℕ) (h : at < length s) where
  after_first : awaited between (drop at s) ≡ awaited (first_byte (byte s at)) (drop (at + 1) s)
  after_first = awaited_more between s at h ∙ ap (λ a. awaited a (drop (at + 1) s)) (next_first between (byte s at) refl)

  one_byte : byte s at < 0x80 → Read s at (ok (byte s at, at + 1))
  one_byte l =
      let same = after_first ∙ ap (λ a. awaited a (drop (at + 1) s)) (first-ascii (byte s at) l) in
      one {next = at + 1} (omega arith) (omega arith) same λ y. syntax_more y s at h

  module _ (l : 0x80 ≤ byte s at) where
    after_row : {a : Awaited} → first_byte (byte s at) ≡ a → awaited between (drop at s) ≡ awaited a (drop (at + 1) s)
    after_row e = after_first ∙ ap (λ a. awaited a (drop (at + 1) s)) e

    from_tail : {a : Awaited} {o : Outcome (ℕ × ℕ)} → first_byte (byte s at) ≡ a → Tailed s (at + 1) a o → Read s at o
    from_tail e (cut n) = none λ q. n (sym (ap (λ x. x.more) (after_row e)) ∙ q)
    from_tail e (whole {c} {next} i j k f g) =
        one {next = next} (omega arith) j (after_row e ∙ f) λ y.
        syntax_more y s at h ∙ g (next_syntax y (byte s at)) (settles (byte s at) l y) ∙ ap (λ x. syntax x (drop next s)) (alike (byte s at) c l k y)

    from_row : {o : Outcome (ℕ × ℕ)} → Row s at (byte s at) o → Read s at o
    from_row (leads {more} {low} {high} bits e i n) = from_tail e (tails s more (at + 1) low high bits i n)
    from_row (no_row e) =
        none λ q.
        let f : awaited between (drop at s) ≡ broken = after_row e ∙ broken_stays (drop (at + 1) s) in
        let z : ◌≡◌ {A = ℕ} 1 0 = sym (ap (λ x. x.more) f) ∙ q in omega arith

  character-read : Read s at (character_at s at)
  unfolding character_at
  character-read = go (leb (byte s at) 0x7F) refl
    where
      go : (t : Bool) → leb (byte s at) 0x7F ≡ t → Read s at (if t then ok (byte s at, at + 1) else multibyte s at (byte s at))
      go true e = let l = leb-true (byte s at) 0x7F e in one_byte (omega arith)
      go false e = let l = leb-false (byte s at) 0x7F e in from_row (omega arith) (row s at (byte s at) (omega arith))

-- ---- all of them

data Judged (s : Bytes) (at : ℕ) : Outcome Text → Type 0 where
  not_utf8 : {number place : ℕ} → ((awaited between (drop at s)).more ≡ 0 → ⊥) → Judged s at (refused number place)
  utf8 : {t : Text} → (awaited between (drop at s)).more ≡ 0 → ((y : Syntax) → syntax y (drop at s) ≡ syntax y t) → Judged s at (ok t)

judged_end : (s : Bytes) (at : ℕ) → length s ≤ at → Judged s at (ok [])
unfolding syntax
judged_end s at h = utf8 (ap (λ x. x.more) (awaited_end between s at h)) (λ y. syntax_end y s at h)

-- one before others
judged-before : {s : Bytes} {at : ℕ} (c next : ℕ) {o : Outcome Text} → awaited between (drop at s) ≡ awaited between (drop next s) →
    ((y : Syntax) → syntax y (drop at s) ≡ syntax (next_syntax y c) (drop next s)) → Judged s next o → Judged s at (o >>= λ cs. ok (c ∷ cs))
unfolding ◌>>=◌ syntax
judged-before c next e f (not_utf8 n) = not_utf8 λ q. n (sym (ap (λ x. x.more) e) ∙ q)
judged-before c next e f (utf8 m g) = utf8 (ap (λ x. x.more) e ∙ m) λ y. f y ∙ g (next_syntax y c)

-- a character that was read, or was not, before those that are left
judged_more : {s : Bytes} {at : ℕ} (rest : ℕ → Outcome Text) {o : Outcome (ℕ × ℕ)} → Read s at o → ((next : ℕ) → at < next → Judged s next (rest next)) →
    Judged s at (o >>= λ v. rest v.1 >>= λ cs. ok (v.0 ∷ cs))
unfolding ◌>>=◌
judged_more rest (none n) f = not_utf8 n
judged_more rest (one {c} {next} i j e g) f = judged-before c next e g (f next i)

judged-from : (s : Bytes) (fuel at : ℕ) → length s ≤ fuel + at → Judged s at (characters_from fuel s at)
unfolding characters_from
judged-from s zero at h = judged_end s at (omega arith)
judged-from s (suc fuel) at h = go (ltb at (length s)) refl (λ next i. judged-from s fuel next (omega arith))
  where
    go : (t : Bool) → ltb at (length s) ≡ t → ((next : ℕ) → at < next → Judged s next (characters_from fuel s next)) →
        Judged s at (if t then (character_at s at >>= λ v. characters_from fuel s v.1 >>= λ cs. ok (v.0 ∷ cs)) else ok [])
    go true e rest = judged_more (characters_from fuel s) (character-read s at (ltb-true _ _ e)) rest
    go false e rest = judged_end s at (ltb-false _ _ e)

-- ---- the verdict

module _ (s : Bytes) where
  judged_as : (o : Outcome Text) → characters s ≡ o → Judged s 0 o → judge (awaited between s) (syntax Syntax.Start s) ≡ verdict s
  unfolding judge verdict is_utf8 is_pointer accepted ◌>>=◌
  judged_as (refused number place) e (not_utf8 n) = rw (ne_eqb (awaited between s).more 0 n, e)
  judged_as (ok t) e (utf8 m f) = rw (eq-eqb (awaited between s).more 0 m, e, f Syntax.Start, ends_accepted t)

  pub judged : judge (awaited between s) (syntax Syntax.Start s) ≡ verdict s
  unfolding characters
  judged = judged_as (characters s) refl (judged-from s (length s) 0 (omega arith))

-- what is left of a text comes to what all of it does
pub record Scanning (s : Bytes) (a : Awaited) (y : Syntax) (at : ℕ) : Type 0 where
  pub in_text : at ≤ length s
  pub same_character : awaited a (drop at s) ≡ awaited between s
  pub same_syntax : syntax y (drop at s) ≡ syntax Syntax.Start s

pub scanning_starts : (s : Bytes) → Scanning s between Syntax.Start 0
scanning_starts s = record { in_text = omega arith; same_character = refl; same_syntax = refl }

module _ {s : Bytes} {a : Awaited} {y : Syntax} {at : ℕ} (g : Scanning s a y at) where
  pub scanning_on : at < length s → {a' : Awaited} {y' : Syntax} → a' ≡ next_byte a (byte s at) → y' ≡ next_syntax y (byte s at) → Scanning s a' y' (at + 1)
  scanning_on h e f =
      record {
        in_text = omega arith;
        same_character = ap (λ a. awaited a (drop (at + 1) s)) e ∙ sym (awaited_more a s at h) ∙ g.same_character;
        same_syntax = ap (λ y. syntax y (drop (at + 1) s)) f ∙ sym (syntax_more y s at h) ∙ g.same_syntax;
      }

  pub scanning_ends : length s ≤ at → judge a y ≡ verdict s
  scanning_ends h =
      let one : a ≡ awaited between s = sym (awaited_end a s at h) ∙ g.same_character in
      let two : y ≡ syntax Syntax.Start s = sym (syntax_end y s at h) ∙ g.same_syntax in
      ap (λ x. judge x y) one ∙ ap (judge (awaited between s)) two ∙ judged s

-- ---- octets counted as they are looked at

abbrev tally : ℕ → Awaited → Syntax → Outcome Bytes → Result ℕ LinkRefusal
tally n a y (ok t) = counted (n + length t) (judge (awaited a t) (syntax y t))
tally n a y (refused number place) = Err LinkRefusal.BadLink

pub tally_starts : (o : Outcome Bytes) → tally 0 between Syntax.Start o ≡ fragment_of o
unfolding fragment_of
tally_starts (ok t) = let n : 0 + length t ≡ length t = omega arith in rw (n, judged t)
tally_starts (refused number place) = refl

tally-before : (n : ℕ) (a : Awaited) (y : Syntax) (b : ℕ) (o : Outcome Bytes) → tally n a y (precede b o) ≡ tally (n + 1) (next_byte a b) (next_syntax y b) o
unfolding precede ◌>>=◌ awaited syntax
tally-before n a y b (ok t) = let e : n + suc (length t) ≡ n + 1 + length t = omega arith in rw e
tally-before n a y b (refused number place) = refl

-- what is left of a fragment comes to what all of it does
pub record Going (s : Bytes) (start : ℕ) (a : Awaited) (y : Syntax) (n at : ℕ) : Type 0 where
  pub in_text : at ≤ length s
  pub few : n ≤ at
  pub same : tally n a y (octets nothing (drop at s)) ≡ fragment_of (octets nothing (drop start s))

pub going_starts : (s : Bytes) (start : ℕ) → start ≤ length s → Going s start between Syntax.Start 0 start
going_starts s start h = record { in_text = h; few = omega arith; same = tally_starts (octets nothing (drop start s)) }

module _ {s : Bytes} {start : ℕ} {a : Awaited} {y : Syntax} {n at : ℕ} (g : Going s start a y n at) where
  pub going_on : {r : ℕ × ℕ} → OctetAt s at (Some r) → Going s start (next_byte a r.0) (next_syntax y r.0) (n + 1) r.1
  unfolding octets_after Onward
  going_on {r} o =
      record {
        in_text = o.onward.1;
        few = omega (arith, g.few, o.onward.0);
        same = sym (tally-before n a y r.0 (octets nothing (drop r.1 s))) ∙ sym (ap (tally n a y) o.gives) ∙ g.same;
      }

  pub going_bad : OctetAt s at None → Err LinkRefusal.BadLink ≡ fragment_of (octets nothing (drop start s))
  unfolding octets_after
  going_bad o = sym (ap (tally n a y) o.gives) ∙ g.same

  pub going_ends : length s ≤ at → {v : Result (Unit {0}) NotPointer} → v ≡ judge a y → counted n v ≡ fragment_of (octets nothing (drop start s))
  unfolding octets awaited syntax
  going_ends h e =
      let m : n + 0 ≡ n = omega arith in
      ap (counted n) e ∙ sym (ap (λ t. tally n a y (octets nothing t)) (at_end s at h) ∙ ap (λ k. counted k (judge a y)) m) ∙ g.same
