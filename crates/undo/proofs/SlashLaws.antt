-- A pointer cut at its last slash: before it the pointer of all tokens but the last, behind it the last one.
use Prim.Native.Nat.{ℕ, ◌-◌, ◌<◌}
use native.Mathlib.Omega.{arith}
use native.Mathlib.Nat.{sub-zero}
use mathlib.Core.Path.{◌≡◌, refl, ap, sym, ◌∙◌}
use mathlib.Core.Bool.{Bool, true, false, not, ◌&&◌, true≢false}
use mathlib.Core.List.{[], ◌∷◌, ◌++◌, append-nil, append_assoc}
use lib.ListN.{length, take}
use lib.Dec.{eqb}
use borrow.Author.Tests.{ne_eqb}
use Rattle.spec.specs.Outcome.{ok, refused}
use Rattle.spec.specs.Bytes.{Bytes, Text}
use Rattle.spec.specs.Pointer.{Tokens, tokens, segments, unescape_all}
use Rattle.spec.proofs.TextLaws.{both_true}
use Rattle.claims.specs.Pointers.{escape_token, pointer_of}
use Rattle.claims.proofs.PointersTheorem.{Escaped, tilde-escaped, slash_escaped, plain, escaped, pointers}
use Rattle.lexer.specs.Names.{part}
use Rattle.text.specs.Decode.{character_in, decode_from, decode}
use Rattle.text.proofs.SegmentLaws.{no_slash}
use Rattle.text.proofs.DecodeLaws.{in_past, decode_more, decode_ends, Reads, nothing, one_more, reads_decode, reads_part}
use Rattle.pointer.specs.Tokens.{tokens_from}
use Rattle.reversal.specs.Undo.{parent_tokens, last_token}
use Rattle.undo.specs.Mend.{Cuts, CutIs}
use Rattle.undo.specs.declared.cuts.Cut.{Cut}

-- ---- the text of a pointer
pub pointer_last : (t : Text) (ts : Tokens) → pointer_of (t ∷ ts) ≡ pointer_of (parent_tokens t ts) ++ (47 ∷ escape_token (last_token t ts))
unfolding pointer_of parent_tokens last_token
pointer_last t [] = ap (◌∷◌ 47) (append-nil (escape_token t))
pointer_last t (u ∷ ts) =
    ap (λ r. 47 ∷ (escape_token t ++ r)) (pointer_last u ts)
    ∙ ap (◌∷◌ 47) (sym (append_assoc (escape_token t) (pointer_of (parent_tokens u ts)) (47 ∷ escape_token (last_token u ts))))

escape_on : {c : ℕ} {w : Text} → Escaped c w → (r : Text) → no_slash r ≡ true → no_slash (w ++ r) ≡ true
unfolding no_slash
escape_on tilde-escaped r h = h
escape_on slash_escaped r h = h
escape_on (plain q p) r h = rw (p, h)

escape_no_slash : (t : Text) → no_slash (escape_token t) ≡ true
unfolding escape_token no_slash
escape_no_slash [] = refl
escape_no_slash (c ∷ t) = escape_on (escaped c) (escape_token t) (escape_no_slash t)

slash_inside : (a b : Text) → no_slash (a ++ (47 ∷ b)) ≡ false
unfolding no_slash
slash_inside [] b = refl
slash_inside (c ∷ a) b = rw (slash_inside a b) (both (not (eqb c 47)))
  where
    both : (t : Bool) → (t && false) ≡ false
    both true = refl
    both false = refl

-- a text is cut at its last slash in one way
pub record SameCut (a a' b b' : Text) : Type 0 where
  pub front : a ≡ a'
  pub back : b ≡ b'

slash_once : (a a' b b' : Text) → no_slash b ≡ true → no_slash b' ≡ true → a ++ (47 ∷ b) ≡ a' ++ (47 ∷ b') → SameCut a a' b b'
slash_once [] [] b b' n n' e = record { front = refl; back = cc }
slash_once [] (c ∷ a') b b' n n' e =
    let f : b ≡ a' ++ (47 ∷ b') = cc in
    absurd (true≢false (sym n ∙ ap no_slash f ∙ slash_inside a' b'))
slash_once (c ∷ a) [] b b' n n' e =
    let f : a ++ (47 ∷ b) ≡ b' = cc in
    absurd (true≢false (sym n' ∙ ap no_slash (sym f) ∙ slash_inside a b))
slash_once (c ∷ a) (d ∷ a') b b' n n' e =
    let f : a ++ (47 ∷ b) ≡ a' ++ (47 ∷ b') = cc in
    let g : c ≡ d = cc in
    let s = slash_once a a' b b' n n' f in
    record { front = rw (g, s.front); back = s.back }

pub pointer_cut : (p a b : Text) (t : Text) (ts : Tokens) → tokens p ≡ ok (t ∷ ts) → p ≡ a ++ (47 ∷ b) → no_slash b ≡ true
    → SameCut a (pointer_of (parent_tokens t ts)) b (escape_token (last_token t ts))
pointer_cut p a b t ts h e n =
    slash_once a _ b _ n (escape_no_slash (last_token t ts)) (sym e ∙ sym (pointers.written_so p (t ∷ ts) h) ∙ pointer_last t ts)

-- a pointer that has a token has a slash
pub pointer_slash : (p t : Text) (ts : Tokens) → tokens p ≡ ok (t ∷ ts) → no_slash p ≡ true → ⊥
pointer_slash p t ts h n =
    true≢false (sym n ∙ ap no_slash (sym (pointers.written_so p (t ∷ ts) h) ∙ pointer_last t ts) ∙ slash_inside (pointer_of (parent_tokens t ts)) _)

one_token : (t : Text) → unescape_all (segments (escape_token t)) ≡ ok (t ∷ [])
unfolding tokens pointer_of
one_token t = ap (λ r. unescape_all (segments r)) (sym (append-nil (escape_token t))) ∙ pointers.read_back (t ∷ [])

-- ---- the scan: one character more
reads_then : {s : Bytes} {start at c next : ℕ} {cs : Text} → Reads s start cs at → character_in s at ≡ ok (c, next) → Reads s start (cs ++ (c ∷ [])) next
reads_then nothing e = one_more e nothing
reads_then (one_more f r) e = one_more f (reads_then r e)

no_slash_then : (cs : Text) (c : ℕ) → no_slash cs ≡ true → (c ≡ 47 → ⊥) → no_slash (cs ++ (c ∷ [])) ≡ true
unfolding no_slash
no_slash_then [] c h n = rw (ne_eqb c 47 n)
no_slash_then (d ∷ cs) c h n =
    let (a, b) = both_true (not (eqb d 47)) (no_slash cs) h in
    rw (a, no_slash_then cs c b n)

-- no slash so far, or the last one and what was read behind it
pub data Scan (s : Bytes) (end next at : ℕ) : Type 0 where
  before_slash : {cs : Text} → Reads s 0 cs at → no_slash cs ≡ true → Scan s end next at
  behind_slash : {a b : Text} → Reads s 0 a end → character_in s end ≡ ok (47, next) → Reads s next b at → no_slash b ≡ true → Scan s end next at

pub scan_start : (s : Bytes) → Scan s 0 0 0
unfolding no_slash
scan_start s = before_slash nothing refl

whole_read : {s : Bytes} {end next at : ℕ} → Scan s end next at → (cs : Text) × Reads s 0 cs at
whole_read (before_slash {cs} r n) = (cs, r)
whole_read {s} (behind_slash {a} {b} r e q n) = go (reads_then r e) q
  where
    go : {x y z : ℕ} {us bs : Text} → Reads s x us y → Reads s y bs z → (cs : Text) × Reads s x cs z
    go {bs = bs} nothing q = (bs, q)
    go (one_more {c = c} f r) q = let (cs, t) = go r q in (c ∷ cs, one_more f t)

module _ {s : Bytes} {end next at c after : ℕ} (scan : Scan s end next at) (e : character_in s at ≡ ok (c, after)) where
  pub scan_slash : c ≡ 47 → Scan s at after after
  unfolding no_slash
  scan_slash h =
      let (cs, r) = whole_read scan in
      behind_slash r (rw h at e) nothing refl

  pub scan_other : (c ≡ 47 → ⊥) → Scan s end next after
  scan_other h = go scan
    where
      go : Scan s end next at → Scan s end next after
      go (before_slash {cs} r n) = before_slash (reads_then r e) (no_slash_then cs c n h)
      go (behind_slash {a} {b} r f q n) = behind_slash r f (reads_then q e) (no_slash_then b c n h)

  pub scan_less : length s - after < length s - at
  scan_less = omega (arith, in_past s at e)

take_part : (s : Bytes) (n : ℕ) → part s 0 n ≡ take n s
unfolding part
take_part s n = ap (λ k. take k s) (sub-zero n)

-- ---- the end of the text
module _ {s : Bytes} {at number place : ℕ} (stop : character_in s at ≡ refused number place) where
  read_all : {start : ℕ} {cs : Text} → Reads s start cs at → decode_from s start ≡ cs
  read_all {cs = cs} r = reads_decode r ∙ ap (λ l. cs ++ l) (decode_ends s at stop) ∙ append-nil cs

  module _ {end next : ℕ} {a b : Text} (reads : Reads s 0 a end) (slash : character_in s end ≡ ok (47, next)) (rest : Reads s next b at) where
    whole : decode s ≡ a ++ (47 ∷ b)
    unfolding decode
    whole = reads_decode reads ∙ ap (λ l. a ++ l) (decode_more s end 47 next slash ∙ ap (◌∷◌ 47) (read_all rest))

    cut_there : (r : Cut) → r.end ≡ end → r.next ≡ next → no_slash b ≡ true → (t : Text) (ts : Tokens) → tokens (decode s) ≡ ok (t ∷ ts) → Cuts s t ts r
    unfolding tokens_from
    cut_there r is-end is_next_lem n t ts h =
        let same = pointer_cut (decode s) a b t ts h whole n in
        let places = in_past s end slash in
        record {
          parent = rw is-end (ap decode (sym (take_part s end)) ∙ reads_part (omega arith) reads ∙ same.front);
          up_to_last =
              rw is_next_lem
              (ap decode (sym (take_part s next)) ∙ reads_part (omega arith) (reads_then reads slash) ∙ ap (λ l. l ++ (47 ∷ [])) same.front);
          last = rw is_next_lem (ap (λ l. unescape_all (segments l)) (read_all rest ∙ same.back) ∙ one_token (last_token t ts));
          order = omega (arith, is-end, is_next_lem, places);
          inside = omega (arith, is_next_lem, places);
        }

pub scan_done : {s : Bytes} {end next at number place : ℕ} (r : Cut) → r.end ≡ end → r.next ≡ next → Scan s end next at
    → character_in s at ≡ refused number place → CutIs s r
unfolding decode
scan_done {s} r is-end is_next_lem (before_slash {cs} reads n) stop t ts h = absurd (pointer_slash (decode s) t ts h (ap no_slash (read_all stop reads) ∙ n))
scan_done r is-end is_next_lem (behind_slash reads slash rest n) stop t ts h = cut_there stop reads slash rest r is-end is_next_lem n t ts h
