-- A part that begins with the bytes of a region has the region's characters.
use Rattle.std.specs.Prelude.{if◌then◌else◌}
use mathlib.Core.Path.{◌≡◌, refl, ap, sym, subst, ◌∙◌}
use mathlib.Core.Bool.{Bool, true, false}
use Prim.Native.Nat.{ℕ, zero, suc, ◌+◌, ◌*◌, ◌-◌, ◌≤◌, ◌<◌}
use Prim.Native.Char.{code}
use native.Mathlib.Omega.{arith}
use native.Mathlib.Decide.{dec_lt}
use lib.ListN.{length, take, get_or}
use lib.Seq.{get_or-take}
use borrow.Author.Tests.{ne_eqb, lt-leb}
use Rattle.spec.specs.Outcome.{Outcome, ok, refused, ◌>>=◌}
use Rattle.spec.specs.Bytes.{Bytes, byte, byte_in, within}
use Rattle.spec.specs.Strings.{tail, multibyte, character}
use Rattle.spec.proofs.OutcomeLaws.{both_ok}
use Rattle.lexer.specs.Names.{stands_for_itself}
use Rattle.lexer.proofs.Tests.{above_within}
use Rattle.lexer.proofs.AnswerLaws.{byte_taken}
use Rattle.text.specs.Decode.{character_in}
use Rattle.fragment.specs.Link.{character_at}
use Rattle.region.specs.Begins.{Raw, SameTo, BeginsRaw}
use Rattle.region.proofs.BeginsLaws.{Ahead, ahead_all, ahead_next, self_at, self_in, at_past, at_within, none_read}

-- ---- what one outcome gives, another gives
abbrev Gives : Outcome (ℕ × ℕ) → Outcome (ℕ × ℕ) → Type 0
Gives o o' = (r : ℕ × ℕ) → o ≡ ok r → o' ≡ ok r

gives_if : (b : Bool) (o o' p p' : Outcome (ℕ × ℕ)) → Gives o o' → Gives p p' → Gives (if b then o else p) (if b then o' else p')
gives_if true o o' p p' f g = f
gives_if false o o' p p' f g = g

-- ---- a character of several bytes, given the first
module _ {s t : Bytes} (same : SameTo s t (length s)) where
  byte_gives : (at low high b : ℕ) → 1 ≤ low → byte_in s at low high ≡ ok b → byte_in t at low high ≡ ok b
  unfolding byte_in
  byte_gives at low high b l e = rw (same.each at (byte_taken s at low high b l e).here) e

  tail_gives : (more at low high bits : ℕ) → 1 ≤ low → Gives (tail more s at low high bits) (tail more t at low high bits)
  unfolding tail ◌>>=◌
  tail_gives zero at low high bits l r e = e
  tail_gives (suc more) at low high bits l r e =
      let (b, f, g) = both_ok (byte_in s at low high) _ r e in
      rw (byte_gives at low high b l f) (tail_gives more (at + 1) 0x80 0xBF (bits * 64 + (b - 0x80)) (omega arith) r g)

  multibyte_gives : (at b : ℕ) → Gives (multibyte s at b) (multibyte t at b)
  unfolding multibyte
  multibyte_gives at b =
      gives_if (within 0xC2 0xDF b) _ _ _ _ (tail_gives 1 (at + 1) 0x80 0xBF (b - 0xC0) (omega arith))
      (gives_if (within 0xE0 0xE0 b) _ _ _ _ (tail_gives 2 (at + 1) 0xA0 0xBF (b - 0xE0) (omega arith))
      (gives_if (within 0xE1 0xEC b) _ _ _ _ (tail_gives 2 (at + 1) 0x80 0xBF (b - 0xE0) (omega arith))
      (gives_if (within 0xED 0xED b) _ _ _ _ (tail_gives 2 (at + 1) 0x80 0x9F (b - 0xE0) (omega arith))
      (gives_if (within 0xEE 0xEF b) _ _ _ _ (tail_gives 2 (at + 1) 0x80 0xBF (b - 0xE0) (omega arith))
      (gives_if (within 0xF0 0xF0 b) _ _ _ _ (tail_gives 3 (at + 1) 0x90 0xBF (b - 0xF0) (omega arith))
      (gives_if (within 0xF1 0xF3 b) _ _ _ _ (tail_gives 3 (at + 1) 0x80 0xBF (b - 0xF0) (omega arith))
      (gives_if (within 0xF4 0xF4 b) _ _ _ _ (tail_gives 3 (at + 1) 0x80 0x8F (b - 0xF0) (omega arith))
      (λ r e. e))))))))

-- it is read in the same way from a region and from a part
module _ (s : Bytes) (at : ℕ) (h : 0x80 ≤ byte s at) where
  at_multibyte : character_at s at ≡ multibyte s at (byte s at)
  unfolding character_at
  at_multibyte = rw (lt-leb (byte s at) 0x7F (omega arith))

  in_multibyte : character_in s at ≡ multibyte s at (byte s at)
  unfolding character_in character
  in_multibyte =
      rw (
        ne_eqb (byte s at) (code "\"") (λ e. omega arith),
        ne_eqb (byte s at) (code "\\") (λ e. omega arith),
        above_within 0x20 0x7F (byte s at)
            (omega arith),
      )

-- ---- all characters of the region
module _ {region part : Bytes} (begins : BeginsRaw region part) where
  one-character : (at : ℕ) → at < length region → {c next : ℕ} → character_at region at ≡ ok (c, next) → character_in part at ≡ ok (c, next)
  one-character at inside {c} {next} e = go (dec_lt (byte region at) 0x80)
    where
      there : byte part at ≡ byte region at
      there = begins.same.each at inside

      go : Dec (byte region at < 0x80) → character_in part at ≡ ok (c, next)
      go (yes h) =
          let stands = begins.raw.each at inside h in
          self_in part at (ap stands_for_itself there ∙ stands) ∙ ap (λ (b : ℕ). ok (b, at + 1)) there ∙ sym (self_at region at stands) ∙ e
      go (no h) =
          in_multibyte part at (omega (arith, there)) ∙ ap (multibyte part at) there ∙
          multibyte_gives begins.same at (byte region at) (c, next) (sym (at_multibyte region at (omega arith)) ∙ e)

  ahead_from : (fuel i : ℕ) → length region ≤ fuel + i → i ≤ length region → Ahead region part i i → Ahead region part (length region) (length region)
  ahead_from zero i l m ahead = let e : i ≡ length region = omega arith in subst (λ (k : ℕ). Ahead region part k k) e ahead
  ahead_from (suc fuel) i l m ahead = go (dec_lt i (length region)) (ahead_from fuel)
    where
      go : Dec (i < length region)
          → ((k : ℕ) → length region ≤ fuel + k → k ≤ length region → Ahead region part k k → Ahead region part (length region) (length region))
          → Ahead region part (length region) (length region)
      go (no n) ih = let e : i ≡ length region = omega arith in subst (λ (k : ℕ). Ahead region part k k) e ahead
      go (yes inside) ih = read (character_at region i) refl
        where
          read : (o : Outcome (ℕ × ℕ)) → character_at region i ≡ o → Ahead region part (length region) (length region)
          read (ok (c, next)) e =
              let past = at_past region i e in
              let least = at_within region i inside e in
              ih next (omega arith) (omega arith) (ahead_next ahead inside e (one-character i inside e) refl)
          read (refused number place) e = λ cs h. absurd (none_read region i inside e (ahead cs h).reads)

  pub ahead_raw : Ahead region part (length region) (length region)
  ahead_raw = ahead_from (length region) 0 (omega arith) (omega arith) (ahead_all region part)

-- ---- the bytes of the region in front of a part
pub begins_all : {region part : Bytes} → Raw region → length region ≤ length part → region ≡ take (length region) part → BeginsRaw region part
unfolding byte
begins_all {region} {part} raw long same =
    record {
      raw = raw;
      long = long;
      same = record { each = λ i h. sym (get_or-take (length region) part i 0 h) ∙ ap (λ l. get_or l i 0) (sym same) };
    }
