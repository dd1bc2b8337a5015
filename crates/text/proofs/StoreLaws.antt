-- Bytes stored one after another in an output.
use mathlib.Core.Path.{◌≡◌, refl, sym, ap, ◌∙◌}
use mathlib.Core.List.{[], ◌∷◌, ◌++◌, append-nil, append_assoc}
use Prim.Native.Nat.{ℕ, suc, ◌+◌, ◌-◌, ◌≤◌, ◌<◌, min}
use native.Mathlib.Omega.{arith}
use native.Mathlib.Nat.{add-zero, zero-add}
use native.Mathlib.Decide.{dec_lt}
use native.Mathlib.Numerals.{add-one}
use lib.ListN.{length, take, drop, set, get_or, length-append, length-drop, take-append-drop}
use lib.Seq.{sets, sets-eq, length-sets, set_out, take-suc, take_all, take-add, take_at, drop_at, length-take-le}
use Rattle.spec.specs.Bytes.{Bytes}
use Rattle.spec.specs.Write.{write_character, write_characters}
use Rattle.text.specs.Decode.{text_from, text_of}
use Rattle.text.specs.Written.{Stored, LaidDown}
use Rattle.text.proofs.LengthLaws.{text_short}

-- one run of stores after another
pub sets_append : (l : Bytes) (i : ℕ) (u v : Bytes) → sets l i (u ++ v) ≡ sets (sets l i u) (i + length u) v
sets_append l i [] v = ap (λ n. sets l n v) (sym (add-zero i))
sets_append l i (a ∷ u) v = let e : suc i + length u ≡ i + suc (length u) = omega arith in
    sets_append (set l i a) (suc i) u v ∙ ap (λ n. sets (sets (set l i a) (suc i) u) n v) e

pub stores_on : (l : Bytes) (i : ℕ) (u v : Bytes) {m n : Bytes} {j : ℕ} → m ≡ sets l i u → n ≡ sets m j v → j ≡ i + length u → n ≡ sets l i (u ++ v)
stores_on l i u v {m} e f h = f ∙ ap (λ k. sets m k v) h ∙ ap (λ m. sets m (i + length u) v) e ∙ sym (sets_append l i u v)

-- stores past the end change nothing
pub sets_out : (l : Bytes) (i : ℕ) (vs : Bytes) → length l ≤ i → sets l i vs ≡ l
sets_out l i [] h = refl
sets_out l i (a ∷ vs) h = ap (λ m. sets m (suc i) vs) (set_out l i a h) ∙ sets_out l (suc i) vs (omega arith)

-- the same bytes stored again at the same place
sets_twice : (l : Bytes) (i : ℕ) (u : Bytes) → i + length u ≤ length l → sets (sets l i u) i u ≡ sets l i u
sets_twice l i u h =
    let m : Bytes = sets l i u in
    let rest : Bytes = drop (i + length u) l in
    let is : m ≡ take i l ++ u ++ rest = sets-eq u l i h in
    let front : length (take i l) ≡ i = length-take-le i l (omega arith) in
    let long : i + length u ≤ length m = omega (arith, length-sets l i u) in
    let before : take i m ≡ take i l = ap (take i) (is ∙ append_assoc (take i l) u rest) ∙ take_at (take i l) (u ++ rest) i front in
    let behind : drop (i + length u) m ≡ rest =
    ap (drop (i + length u)) is ∙ drop_at (take i l ++ u) rest (i + length u) (length-append (take i l) u ∙ ap (λ n. n + length u) front) in
    sets-eq u m i long ∙ ap (λ p. p ++ u ++ drop (i + length u) m) before ∙ ap (λ r. take i l ++ u ++ r) behind ∙ sym is

-- two runs of stores that overlap: the first bytes, then the last
pub sets_overlap : (l : Bytes) (i : ℕ) (s : Bytes) (count rest : ℕ) → rest ≤ count → count ≤ length s → i + length s ≤ length l
    → sets (sets l i (take count s)) (i + rest) (drop rest s) ≡ sets l i s
sets_overlap l i s count rest h k room =
    let p : Bytes = take rest s in
    let q : Bytes = drop rest s in
    let q₁ : Bytes = take (count - rest) q in
    let q₂ : Bytes = drop (count - rest) q in
    let m : Bytes = sets l i p in
    let short : length p ≡ rest = length-take-le rest s (omega arith) in
    let inner : length q₁ ≡ count - rest = length-take-le (count - rest) q (omega (arith, length-drop rest s)) in
    let sum : rest + (count - rest) ≡ count = omega arith in
    let first : take count s ≡ p ++ q₁ = ap (λ n. take n s) (sym sum) ∙ take-add rest (count - rest) s in
    let place : (u : Bytes) (v : Bytes) → sets u (i + length p) v ≡ sets u (i + rest) v = λ u v. ap (λ n. sets u (i + n) v) short in
    let halves : q₁ ++ q₂ ≡ q = take-append-drop (count - rest) q in
    let once : sets l i (take count s) ≡ sets m (i + rest) q₁ = ap (sets l i) first ∙ sets_append l i p q₁ ∙ place m q₁ in
    let roomy : i + rest + length q₁ ≤ length m = omega (arith, length-sets l i p, inner) in
    ap (λ u. sets u (i + rest) q) once
    ∙ ap (sets (sets m (i + rest) q₁) (i + rest)) (sym halves)
    ∙ sets_append (sets m (i + rest) q₁) (i + rest) q₁ q₂
    ∙ ap (λ u. sets u (i + rest + length q₁) q₂) (sets_twice m (i + rest) q₁ roomy)
    ∙ sym (sets_append m (i + rest) q₁ q₂)
    ∙ ap (sets m (i + rest)) halves
    ∙ sym (place m q)
    ∙ sym (sets_append l i p q)
    ∙ ap (sets l i) (take-append-drop rest s)

-- where there is room, the bytes stand at the front, and the output behind them is as it was
pub laid_down : (vs out : Bytes) → length vs ≤ length out → sets out 0 vs ≡ vs ++ drop (length vs) out
laid_down vs out h = sets-eq vs out 0 (omega arith) ∙ ap (λ n. vs ++ drop n out) (zero-add (length vs))

-- bytes that were stored, said of equal bytes
pub stored : {bytes : Bytes} (vs : Bytes) {at next : ℕ} {before after : Bytes} → bytes ≡ vs
    → after ≡ sets before at vs → next ≡ at + length vs → Stored bytes at before after next
stored vs {at} {before = before} e f g = record { next_is = g ∙ ap (λ b. at + length b) (sym e); after_is = f ∙ ap (sets before at) (sym e) }

pub stored_as : {bytes vs : Bytes} {at next : ℕ} {before after : Bytes} → bytes ≡ vs → Stored vs at before after next → Stored bytes at before after next
stored_as {vs = vs} e r = stored vs e r.after_is r.next_is

-- ---- a text laid down, character by character

pub record Laying (form : ℕ) (s out₀ out : Bytes) (put at : ℕ) : Type 0 where
  pub so_far : Bytes
  pub whole : write_characters (text_of form s) ≡ so_far ++ write_characters (text_from form s at)
  pub put_is : put ≡ length so_far
  pub out_is : out ≡ sets out₀ 0 so_far

pub laying_starts : (form : ℕ) (s out : Bytes) → Laying form s out out 0 0
unfolding text_of
laying_starts form s out = record { so_far = []; whole = refl; put_is = refl; out_is = refl }

module _ {form : ℕ} {s out₀ out : Bytes} {put at : ℕ} (l : Laying form s out₀ out put at) where
  pub laying_length : length out ≡ length out₀
  laying_length = ap length l.out_is ∙ length-sets out₀ 0 l.so_far

  -- what was put is no longer than the part
  pub laying_bound : put ≤ length s
  laying_bound =
      omega (arith, l.put_is, text_short form s, ap length l.whole, length-append l.so_far (write_characters (text_from form s at)))

  pub laying_ends : text_from form s at ≡ [] → LaidDown (write_characters (text_of form s)) out₀ out put
  unfolding write_characters
  laying_ends e =
      let all : write_characters (text_of form s) ≡ l.so_far = l.whole ∙ ap (λ t. l.so_far ++ write_characters t) e ∙ append-nil l.so_far in
      record { count_is = l.put_is ∙ ap length (sym all); after_is = l.out_is ∙ ap (sets out₀ 0) (sym all) }

  -- bytes of what is left
  pub laying_on : (bytes : Bytes) (next : ℕ) {out' : Bytes} {put' : ℕ}
      → write_characters (text_from form s at) ≡ bytes ++ write_characters (text_from form s next) →
      Stored bytes put out out' put' → Laying form s out₀ out' put' next
  laying_on bytes next e r =
      record {
        so_far = l.so_far ++ bytes;
        whole = l.whole ∙ ap (λ t. l.so_far ++ t) e ∙ sym (append_assoc l.so_far bytes (write_characters (text_from form s next)));
        put_is = r.next_is ∙ ap (λ n. n + length bytes) l.put_is ∙ sym (length-append l.so_far bytes);
        out_is = stores_on out₀ 0 l.so_far bytes l.out_is r.after_is (l.put_is ∙ sym (zero-add (length l.so_far)));
      }

  -- one character of it
  pub laying_more : (c next : ℕ) {out' : Bytes} {put' : ℕ} → text_from form s at ≡ c ∷ text_from form s next
      → Stored (write_character c) put out out' put' → Laying form s out₀ out' put' next
  unfolding write_characters
  laying_more c next e r = laying_on (write_character c) next (ap write_characters e) r

-- ---- bytes copied to a place, one after another: the first i of them

pub record Copied (s out₀ : Bytes) (at i : ℕ) (out : Bytes) : Type 0 where
  pub is : out ≡ sets out₀ at (take i s)

pub copied_none : {s out : Bytes} {at : ℕ} → Copied s out at 0 out
copied_none = record { is = refl }

module _ {s out₀ : Bytes} {at i : ℕ} {out : Bytes} (k : Copied s out₀ at i out) where
  pub copied-length : length out ≡ length out₀
  copied-length = ap length k.is ∙ length-sets out₀ at (take i s)

  pub copied_more : i < length s → Copied s out₀ at (i + 1) (set out (at + i) (get_or s i 0))
  copied_more h =
      let place : at + i ≡ at + length (take i s) = omega (arith, length-take-le i s (omega arith)) in
      record {
        is = stores_on out₀ at (take i s) (get_or s i 0 ∷ []) k.is refl place
            ∙ ap (sets out₀ at) (sym (take-suc s i 0 h) ∙ ap (λ n. take n s) (sym (add-one i)));
      }

  -- the next one, where there is no room for it
  pub copied_past : i < length s → length out ≤ at + i → Copied s out₀ at (i + 1) out
  copied_past h beyond = record { is = sym (set_out out (at + i) (get_or s i 0) beyond) ∙ (copied_more h).is }

  -- each of them
  pub copied_each : i ≡ length s → Stored s at out₀ out (at + length s)
  copied_each h = record { next_is = refl; after_is = k.is ∙ ap (sets out₀ at) (take_all i s (omega arith)) }

  -- all of them, or as many as there was room for
  pub copied_all : i ≡ min (length s) (length out₀ - at) → Stored s at out₀ out (at + length s)
  copied_all h = record { next_is = refl; after_is = k.is ∙ go (dec_lt i (length s)) }
    where
      go : Dec (i < length s) → sets out₀ at (take i s) ≡ sets out₀ at s
      go (yes l) =
          let full : length out₀ ≤ at + length (take i s) = omega (arith, length-take-le i s (omega arith)) in
          sym
          (ap (sets out₀ at) (sym (take-append-drop i s))
          ∙ sets_append out₀ at (take i s) (drop i s)
          ∙ sets_out (sets out₀ at (take i s)) (at + length (take i s)) (drop i s) (omega (arith, length-sets out₀ at (take i s))))
      go (no l) = ap (sets out₀ at) (take_all i s (omega arith))

-- what is stored at the front is laid down
pub front : {bytes before after : Bytes} {next : ℕ} → Stored bytes 0 before after next → LaidDown bytes before after next
front r = record { count_is = omega (arith, r.next_is); after_is = r.after_is }
