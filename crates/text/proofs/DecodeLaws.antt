-- Decoding goes from character to character, does the same on a part as in the text around it, and gives what the reader of strings gave.
use Rattle.std.specs.Prelude.{if◌then◌else◌}
use mathlib.Core.Path.{◌≡◌, refl, sym, ap, subst, ◌∙◌}
use mathlib.Core.Bool.{Bool, true, false}
use mathlib.Core.List.{[], ◌∷◌, ◌++◌}
use Prim.Native.Nat.{ℕ, zero, suc, ◌+◌, ◌-◌, ◌≤◌, ◌<◌}
use Prim.Native.Char.{code}
use native.Mathlib.Omega.{arith}
use native.Mathlib.Nat.{sub_self}
use lib.ListN.{length, take, drop, length-take, length-drop}
use lib.Seq.{get_or-take, get_or-drop, take-take, drop-drop}
use lib.Dec.{eqb}
use borrow.Author.Tests.{eqb-true}
use Rattle.spec.specs.Outcome.{Outcome, ok, refused, ◌>>=◌}
use Rattle.spec.specs.Refusal.{not_json}
use Rattle.spec.specs.Bytes.{Bytes, Text, byte, byte_in}
use Rattle.spec.specs.Strings.{character, characters, string}
use Rattle.spec.proofs.OutcomeLaws.{refused≢ok, both_ok, first_ok, second_ok}
use Rattle.spec.proofs.Tracking.{Cut, At, Tracks, pair, landed, got, past_end, nothing_ends, none, choose, same}
use Rattle.spec.proofs.ReadersTrack.{character_tracks}
use Rattle.spec.proofs.ListLaws.{drop-take}
use Rattle.lexer.specs.Names.{part}
use Rattle.lexer.proofs.ByteLaws.{here}
use Rattle.lexer.proofs.StringLaws.{character_ok_past, character_past_end}
use Rattle.text.specs.Decode.{character_in, before, decode_loop, decode_from, decode}

-- ---- one character

-- past the end of a part there is none
pub none_past : (s : Bytes) (at : ℕ) → length s ≤ at → character_in s at ≡ refused not_json at
unfolding character_in
none_past s at h = rw (past_end s h) (character_past_end s at h)

-- a character of a part is one of its text, and its first byte is no quotation mark
pub in_character : (s : Bytes) (at : ℕ) {read : ℕ × ℕ} → character_in s at ≡ ok read → (eqb (byte s at) (code "\"") ≡ false) × (character s at ≡ ok read)
unfolding character_in
in_character s at {read} h = go (eqb (byte s at) (code "\"")) h
  where
    go : (quote : Bool) → (if quote then refused not_json at else character s at) ≡ ok read → (quote ≡ false) × (character s at ≡ ok read)
    go true h = absurd (refused≢ok h)
    go false h = (refl, h)

-- it takes at least one byte, and none past the end
pub in_past : (s : Bytes) (at : ℕ) {c next : ℕ} → character_in s at ≡ ok (c, next) → (at < next) × (next ≤ length s)
in_past s at {c} {next} h = character_ok_past s at (c, next) (in_character s at h).1

-- the bytes from one place up to another are cut out of their text
pub part_length : (s : Bytes) (from to : ℕ) → to ≤ length s → length (part s from to) ≡ to - from
unfolding part
part_length s from to m = omega (arith, length-take (to - from) (drop from s), length-drop from s)

part_cut : (s : Bytes) (from to : ℕ) → from ≤ to → to ≤ length s → Cut s (part s from to) from (to - from)
unfolding part byte
part_cut s from to l m =
    record {
      inside = λ p h. get_or-take (to - from) (drop from s) p 0 h ∙ get_or-drop from s p 0;
      ends = rw (past_end (part s from to) {at = to - from} (omega (arith, part_length s from to m))) nothing_ends;
      whole = omega (arith, part_length s from to m);
      part = λ p q h. ap (take (q - p)) (drop-take p (to - from) (drop from s))
          ∙ take-take (q - p) (to - from - p) (drop p (drop from s)) (omega arith) ∙ ap (take (q - p)) (drop-drop p from s);
    }

-- a character does the same on a part that holds it
in_tracks : {s t : Bytes} {k n at p : ℕ} (cut : Cut s t k n) → At k p at → Tracks true k (suc n) pair (suc p) (character_in s at) (character_in t p)
unfolding character_in
in_tracks cut e = choose (same cut (λ b. eqb b (code "\"")) e (omega arith)) (λ h. none) (λ h. character_tracks true cut e)

read_as : {o : Outcome (ℕ × ℕ)} {c d p q : ℕ} → o ≡ ok (d, p) → c ≡ d → p ≡ q → o ≡ ok (c, q)
read_as h e f = cc

pub in_part : (s : Bytes) (from to at : ℕ) {c next : ℕ} → to ≤ length s → from ≤ at → next ≤ to → character_in s at ≡ ok (c, next) →
    character_in (part s from to) (at - from) ≡ ok (c, next - from)
in_part s from to at {c} {next} l m n h =
    let g = in_past s at h in
    let e : At from (at - from) at = record { is = omega arith } in
    let r = (in_tracks (part_cut s from to (omega arith) l) e).track (c, next) h in
    let place = landed r in
    read_as (r.gives (omega arith)) (got r) (omega arith)

-- ---- the loop: with fuel for every byte left, more fuel gives no other text

module _ (s : Bytes) where
  loop_ends : (fuel at : ℕ) {number place : ℕ} → character_in s at ≡ refused number place → decode_loop fuel s at ≡ []
  unfolding decode_loop before
  loop_ends zero at e = refl
  loop_ends (suc fuel) at e = rw e

  loop_more : (fuel at : ℕ) (c next : ℕ) → character_in s at ≡ ok (c, next) → decode_loop (suc fuel) s at ≡ c ∷ decode_loop fuel s next
  unfolding decode_loop before
  loop_more fuel at c next e = rw e

  loop_fuel : (f g at : ℕ) → length s ≤ f + at → length s ≤ g + at → decode_loop f s at ≡ decode_loop g s at
  unfolding decode_loop
  loop_fuel zero zero at l m = refl
  loop_fuel zero (suc g) at l m = sym (loop_ends (suc g) at (none_past s at (omega arith)))
  loop_fuel (suc f) zero at l m = loop_ends (suc f) at (none_past s at (omega arith))
  loop_fuel (suc f) (suc g) at l m = go (character_in s at) refl (loop_fuel f g)
    where
      go : (o : Outcome (ℕ × ℕ)) → character_in s at ≡ o → ((at : ℕ) → length s ≤ f + at → length s ≤ g + at → decode_loop f s at ≡ decode_loop g s at) →
          decode_loop (suc f) s at ≡ decode_loop (suc g) s at
      go (ok (c, next)) e ih =
          let n = in_past s at e in
          loop_more f at c next e ∙ ap (◌∷◌ c) (ih next (omega arith) (omega arith)) ∙ sym (loop_more g at c next e)
      go (refused number place) e ih = loop_ends (suc f) at e ∙ sym (loop_ends (suc g) at e)

-- ---- decoding goes from character to character

pub decode_more : (s : Bytes) (at : ℕ) (c next : ℕ) → character_in s at ≡ ok (c, next) → decode_from s at ≡ c ∷ decode_from s next
unfolding decode_from
decode_more s at c next e = go (length s) (omega arith) refl
  where
    n : (at < next) × (next ≤ length s)
    n = in_past s at e

    go : (fuel : ℕ) → length s ≤ fuel → fuel ≡ length s → decode_loop fuel s at ≡ c ∷ decode_loop (length s) s next
    go zero m f = absurd (omega (arith, n))
    go (suc fuel) m f = loop_more s fuel at c next e ∙ ap (◌∷◌ c) (loop_fuel s fuel (length s) next (omega (arith, n)) (omega arith))

pub decode_ends : (s : Bytes) (at : ℕ) {number place : ℕ} → character_in s at ≡ refused number place → decode_from s at ≡ []
unfolding decode_from
decode_ends s at e = loop_ends s (length s) at e

-- one character after another leads from a place to another
pub data Reads (s : Bytes) : ℕ → Text → ℕ → Type 0 where
  nothing : {at : ℕ} → Reads s at [] at
  one_more : {at c next to : ℕ} {cs : Text} → character_in s at ≡ ok (c, next) → Reads s next cs to → Reads s at (c ∷ cs) to

pub reads_past : {s : Bytes} {at to : ℕ} {cs : Text} → at ≤ length s → Reads s at cs to → (at ≤ to) × (to ≤ length s)
reads_past l nothing = omega arith
reads_past {s} {at} l (one_more e r) = let n = in_past s at e in omega (arith, reads_past n.1 r)

-- what is decoded from the first place is what was read, and then what is decoded from the second
pub reads_decode : {s : Bytes} {at to : ℕ} {cs : Text} → Reads s at cs to → decode_from s at ≡ cs ++ decode_from s to
reads_decode nothing = refl
reads_decode {s} {at} (one_more {c = c} {next = next} e r) = decode_more s at c next e ∙ ap (◌∷◌ c) (reads_decode r)

-- the bytes between the two places, alone, say what was read
reads_within : {s : Bytes} {at to : ℕ} {cs : Text} (from : ℕ) → at ≤ length s → from ≤ at → Reads s at cs to → decode_from (part s from to) (at - from) ≡ cs
reads_within {s} {to = to} from l m nothing =
    decode_ends (part s from to) (to - from) (none_past (part s from to) (to - from) (omega (arith, part_length s from to l)))
reads_within {s} {at} {to} from l m (one_more {c = c} {next = next} e r) =
    let n = in_past s at e in
    let p = reads_past n.1 r in
    decode_more (part s from to) (at - from) c (next - from) (in_part s from to at p.1 m p.0 e) ∙ ap (◌∷◌ c) (reads_within from n.1 (omega arith) r)

pub reads_part : {s : Bytes} {from to : ℕ} {cs : Text} → from ≤ length s → Reads s from cs to → decode (part s from to) ≡ cs
unfolding decode
reads_part {s} {from} {to} l r = ap (decode_from (part s from to)) (sym (sub_self from)) ∙ reads_within from l (omega arith) r

-- ---- a string that was read, by its part

-- the reader of strings stops at a quotation mark, behind the characters
pub record Quoted (s : Bytes) (at : ℕ) (cs : Text) (next : ℕ) : Type 0 where
  pub to : ℕ
  pub is : next ≡ to + 1
  pub inside : at ≤ length s
  pub quote : byte s to ≡ code "\""
  pub reads : Reads s at cs to

unquoted : (s : Bytes) (at : ℕ) → eqb (byte s at) (code "\"") ≡ false → character_in s at ≡ character s at
unfolding character_in
unquoted s at e = rw e

characters-read : (fuel : ℕ) (s : Bytes) (at : ℕ) (cs : Text) (next : ℕ) → characters fuel s at ≡ ok (cs, next) → Quoted s at cs next
unfolding characters
characters-read zero s at cs next h = absurd (refused≢ok h)
characters-read (suc fuel) s at cs next h = go (eqb (byte s at) (code "\"")) refl h (characters-read fuel s)
  where
    go : (quote : Bool) → eqb (byte s at) (code "\"") ≡ quote →
        if◌then◌else◌ {A = Outcome (Text × ℕ)} quote (ok ([], at + 1))
        (character s at >>= λ (c, next). characters fuel s next >>= λ (cs, end). ok (c ∷ cs, end)) ≡ ok (cs, next) →
        ((at : ℕ) (cs : Text) (next : ℕ) → characters fuel s at ≡ ok (cs, next) → Quoted s at cs next) → Quoted s at cs next
    go true e h ih = let q = eqb-true (byte s at) (code "\"") e in let i = here s at (code "\"") q (omega arith) in
        record { to = at; is = sym (second_ok h); inside = omega arith; quote = q; reads = subst (λ t. Reads s at t at) (first_ok h) nothing }
    go false e h ih =
        let (read, f, i) = both_ok (character s at) _ (cs, next) h in
        let (others, g, j) = both_ok (characters fuel s read.1) _ (cs, next) i in
        let rest = ih read.1 others.0 others.1 g in
        let n = character_ok_past s at read f in
        record {
          to = rest.to;
          is = sym (second_ok j) ∙ rest.is;
          inside = omega arith;
          quote = rest.quote;
          reads = subst (λ t. Reads s at t rest.to) (first_ok j) (one_more (unquoted s at e ∙ f) rest.reads);
        }

pub string-read : (s : Bytes) (at : ℕ) (cs : Text) (next : ℕ) → string s at ≡ ok (cs, next) → Quoted s (at + 1) cs next
unfolding string
string-read s at cs next h = let (_, _, i) = both_ok (byte_in s at (code "\"") (code "\"")) _ (cs, next) h in characters-read (length s) s (at + 1) cs next i

-- the bytes between a string's quotation marks say what the reader of strings gave
pub decode-string : (s : Bytes) (at : ℕ) (cs : Text) (next : ℕ) → string s at ≡ ok (cs, next) → decode (part s (at + 1) (next - 1)) ≡ cs
decode-string s at cs next h =
    let q = string-read s at cs next h in
    let is = q.is in
    let end : next - 1 ≡ q.to = omega arith in
    ap (λ e. decode (part s (at + 1) e)) end ∙ reads_part q.inside q.reads
