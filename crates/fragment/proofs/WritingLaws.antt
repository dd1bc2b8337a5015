-- Texts laid down piece by piece, and a link's length.
use Rattle.std.specs.Prelude.{Some, None}
use Prim.Native.Nat.{ℕ, suc, ◌+◌, ◌/◌, ◌%◌, ◌≤◌, ◌<◌}
use Prim.Native.Char.{code}
use mathlib.Core.Path.{◌≡◌, refl, sym, ap, ◌∙◌}
use mathlib.Core.Bool.{true, false}
use mathlib.Core.List.{[], ◌∷◌, ◌++◌}
use native.Mathlib.Omega.{arith}
use lib.ListN.{length, drop, set, length-set, length-append}
use lib.Seq.{sets}
use Rattle.spec.specs.Outcome.{Outcome, ok, refused, ◌>>=◌}
use Rattle.spec.specs.Bytes.{Bytes, byte}
use Rattle.text.specs.Written.{Stored, LaidDown}
use Rattle.text.proofs.StoreLaws.{stored, front}
use Rattle.text.proofs.LaidLaws.{Laid, laid_starts, laid_on, laid_ends}
use Rattle.fragment.specs.Kept.{is_kept}
use Rattle.text.specs.UpperHex.{upper_hex}
use Rattle.fragment.specs.Link.{bad_link, encoded, encode_all, link, nothing, octets, precede}
use Rattle.fragment.specs.Scan.{octets_after, Onward, OctetAt, OctetsPut}
use Rattle.fragment.proofs.OctetLaws.{from_here, at_end}

-- ---- an octet in a link

module _ (b : ℕ) where
  pub encoded-kept : is_kept b ≡ true → encoded b ≡ b ∷ []
  unfolding encoded
  encoded-kept e = rw e

  pub encoded_percent : is_kept b ≡ false → encoded b ≡ code "%" ∷ upper_hex (b / 16) ∷ upper_hex (b % 16) ∷ []
  unfolding encoded
  encoded_percent e = rw e

-- in percents, stored byte by byte
pub percent_stored : (b at : ℕ) {h l : ℕ} {o p q r : Bytes} → is_kept b ≡ false → h ≡ upper_hex (b / 16) → l ≡ upper_hex (b % 16) →
    p ≡ set o at (code "%") → q ≡ set p (at + 1) h → r ≡ set q (at + 2) l → Stored (encoded b) at o r (at + 3)
percent_stored b at {h} {l} {o} {p} {q} k high low e f g =
    let one : at + 1 ≡ suc at = omega arith in
    let two : at + 2 ≡ suc (suc at) = omega arith in
    let all : set q (at + 2) l ≡ sets o at (code "%" ∷ upper_hex (b / 16) ∷ upper_hex (b % 16) ∷ []) = rw (f, e, high, low, one, two) in
    stored (code "%" ∷ upper_hex (b / 16) ∷ upper_hex (b % 16) ∷ []) (encoded_percent b k) (g ∙ all) refl

module _ (p : Bytes) (at : ℕ) (h : at < length p) where
  pub encode_here : encode_all (drop at p) ≡ encoded (byte p at) ++ encode_all (drop (at + 1) p)
  unfolding encode_all
  encode_here = rw (from_here p at h)

  pub encode_length : length (encode_all (drop at p)) ≡ length (encoded (byte p at)) + length (encode_all (drop (at + 1) p))
  encode_length = ap length encode_here ∙ length-append (encoded (byte p at)) (encode_all (drop (at + 1) p))

pub encode_end : (p : Bytes) (at : ℕ) → length p ≤ at → encode_all (drop at p) ≡ []
unfolding encode_all
encode_end p at h = rw (at_end p at h)

pub link-length : (p : Bytes) → length (link p) ≡ suc (length (encode_all p))
unfolding link
link-length p = refl

-- `#`, and the rest of the link behind it
pub link_laid : (p before : Bytes) {out : Bytes} {end : ℕ} → Stored (encode_all p) 1 (set before 0 (code "#")) out end → LaidDown (link p) before out end
unfolding link
link_laid p before s = record { count_is = omega (arith, s.next_is); after_is = s.after_is }

-- ---- the octets of a fragment

-- where all octets from the start on are t, those from the place on are still to be put
pub record Putting (s : Bytes) (start : ℕ) (before out : Bytes) (end at : ℕ) : Type 0 where
  pub in_text : at ≤ length s
  pub few : end ≤ at
  pub same_length : length out ≡ length before
  pub left : (t : Bytes) → octets nothing (drop start s) ≡ ok t → (r : Bytes) × (octets nothing (drop at s) ≡ ok r) × Laid 0 t r before out end

pub putting_starts : (s : Bytes) (start : ℕ) (out : Bytes) → start ≤ length s → Putting s start out out 0 start
putting_starts s start out h = record { in_text = h; few = omega arith; same_length = refl; left = λ t e. (t, e, laid_starts 0 t out) }

-- octets that begin with this one
precede_ok : (b : ℕ) (o : Outcome Bytes) (r : Bytes) → precede b o ≡ ok r → (t : Bytes) × (o ≡ ok t) × (r ≡ b ∷ t)
unfolding precede ◌>>=◌
precede_ok b (ok t) r e = (t, refl, cc)
precede_ok b (refused number place) r e = let z : ◌≡◌ {A = ℕ} 0 1 = cc in absurd (omega arith)

module _ {s : Bytes} {start : ℕ} {before out : Bytes} {end at : ℕ} (p : Putting s start before out end at) where
  pub putting_on : {r : ℕ × ℕ} {out' : Bytes} → OctetAt s at (Some r) → out' ≡ set out end r.0 → Putting s start before out' (end + 1) r.1
  unfolding octets_after Onward
  putting_on {r} {out'} d f =
      record {
        in_text = d.onward.1;
        few = omega (arith, p.few, d.onward.0);
        same_length = ap length f ∙ length-set out end r.0 ∙ p.same_length;
        left = λ t q.
            let was = p.left t q in
            let now = precede_ok r.0 (octets nothing (drop r.1 s)) was.0 (sym d.gives ∙ was.1) in
            (now.0, now.1, laid_on was.2 (r.0 ∷ []) now.2 (record { next_is = refl; after_is = f }));
      }

  pub putting_bad : OctetAt s at None → OctetsPut (octets nothing (drop start s)) before out end
  unfolding octets_after
  putting_bad d =
      record {
        laid = λ t q.
            let was = p.left t q in
            let z : refused bad_link 0 ≡ ok was.0 = sym d.gives ∙ was.1 in
            let n : ◌≡◌ {A = ℕ} 0 1 = cc in absurd (omega arith);
      }

  pub putting_ends : length s ≤ at → OctetsPut (octets nothing (drop start s)) before out end
  unfolding octets
  putting_ends h =
      record {
        laid = λ t q.
            let was = p.left t q in
            let n : ok [] ≡ ok was.0 = sym (ap (octets nothing) (at_end s at h)) ∙ was.1 in
            let none : was.0 ≡ [] = cc in
            front (laid_ends was.2 none);
      }
