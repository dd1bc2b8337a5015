-- A text is one number exactly where the reader of numbers reads it from its first byte to its last.
use mathlib.Core.Path.{◌≡◌, refl, ap, sym, subst, ◌∙◌}
use mathlib.Core.List.{[], ◌++◌, append-nil}
use mathlib.Core.Bool.{Bool, true, false, ◌||◌}
use Prim.Native.Nat.{ℕ, zero, suc, ◌+◌, ◌-◌, ◌≤◌, ◌<◌}
use native.Mathlib.Nat.{add-zero, zero-add, add-sub_cancel_left}
use native.Mathlib.Omega.{arith}
use native.Mathlib.Decide.{dec_lt}
use lib.Dec.{eqb, ltb}
use lib.ListN.{length, take, drop, get_or, length-drop, get_or-append}
use lib.Seq.{get_or-drop, drop-drop, drop-append-le, take-append-le, take-append_seam}
use borrow.Author.Tests.{lt-ltb, ltb-true, ne_eqb, eqb-true, eq-eqb}
use Rattle.spec.specs.Outcome.{Outcome, ok, ◌>>=◌}
use Rattle.spec.specs.Limits.{max_depth}
use Rattle.spec.specs.Bytes.{Bytes, byte}
use Rattle.spec.specs.Strings.{string}
use Rattle.spec.specs.Numbers.{is_digit, number}
use Rattle.spec.specs.Value as Value
use Rattle.spec.specs.Value.{Label, leaf}
use Rattle.spec.specs.Read.{is_blank, blanks_from, blanks, word_at, room_for, literal_value, number_value, string_value, scalar, container_label}
use Rattle.spec.specs.Read.{contents, container}
use Rattle.spec.specs.Read.{value, read}
use Rattle.spec.proofs.OutcomeLaws.{refused≢ok, both_ok, either_ok, first_ok}
use Rattle.spec.proofs.Tracking.{Ends, Cut, nothing_ends, past_end}
use Rattle.spec.proofs.ReadersTrack.{number-tracks}
use Rattle.spec.specs.Proper.{NumberText}
use Rattle.claims.proofs.Normal.{digit_bounds}
use Rattle.claims.proofs.Rest.{Rest, byte_at}
use Rattle.claims.proofs.NumberRead.{number-spans}
use Rattle.claims.proofs.NumberBack.{number-first, number-some, number-back}
use Rattle.claims.proofs.CharacterScalar.{if_ok}

-- A number that is read in a text is also read from its own bytes alone.

text_cut : (s t r : Bytes) (at : ℕ) → drop at s ≡ t ++ r → Cut s t at (length t)
unfolding byte
text_cut s t r at h =
    record {
      inside = λ p l. sym (get_or-append t r 0 p l) ∙ ap (λ w. get_or w p 0) (sym h) ∙ get_or-drop at s p 0;
      ends = rw (past_end t {at = length t} (omega arith)) nothing_ends;
      whole = omega arith;
      part = λ p q l. go p q l (dec_lt (length t) p);
    }
  where
    go : (p q : ℕ) → q ≤ length t → Dec (length t < p) → take (q - p) (drop p t) ≡ take (q - p) (drop (at + p) s)
    go p q l (yes m) = let nothing : q - p ≡ 0 = omega arith in rw nothing
    go p q l (no m) =
        sym (ap (take (q - p)) (sym (drop-drop p at s) ∙ ap (drop p) h ∙ drop-append-le p t r (omega arith)) ∙
        take-append-le (q - p) (drop p t) r (omega (arith, length-drop p t)))

text_part : (s t r : Bytes) (at next : ℕ) → drop at s ≡ t ++ r → next ≡ at + length t → take (next - at) (drop at s) ≡ t
text_part s t r at next h p =
    let many : next - at ≡ length t = omega arith in
    rw (many, h) (take-append_seam t r)

part-number : (s t r : Bytes) (at next : ℕ) → drop at s ≡ t ++ r → next ≡ at + length t → number s at ≡ ok next → number t 0 ≡ ok (length t)
part-number s t r at next h p n =
    let tracked = (number-tracks true (text_cut s t r at h) {at = at} {p = 0} (record { is = omega arith })).track next n in
    let q = tracked.q in
    let place : next ≡ at + q = tracked.is in
    let same : q ≡ length t = omega arith in
    tracked.gives (omega arith) ∙ ap ok same

pub number-alone : (s : Bytes) (at next : ℕ) → number s at ≡ ok next →
    number (take (next - at) (drop at s)) 0 ≡ ok (length (take (next - at) (drop at s)))
number-alone s at next h =
    let p = number-spans s at next h in
    subst (λ t. number t 0 ≡ ok (length t)) (sym (text_part s p.text (drop next s) at next p.is p.place))
    (part-number s p.text (drop next s) at next p.is p.place h)

-- It is read as a value.

-- No blanks stand where a value begins.
pub blanks_none : (s : Bytes) (at : ℕ) → is_blank (byte s at) ≡ false → blanks s at ≡ at
unfolding blanks blanks_from
blanks_none s at h = go (length s)
  where
    go : (fuel : ℕ) → blanks_from fuel s at ≡ at
    go zero = refl
    go (suc fuel) = rw h

pub room : (nodes at : ℕ) → nodes < 2048 → room_for nodes at ≡ ok at
unfolding room_for
room nodes at h = rw (lt-ltb nodes 2048 h)

-- a scalar is read by its first byte whatever levels are left
pub scalar-value : (left : ℕ) (s : Bytes) (at nodes : ℕ) → eqb (byte s at) 91 ≡ false → eqb (byte s at) 123 ≡ false → value left s at nodes ≡ scalar s at nodes
unfolding value
scalar-value zero s at nodes p q = rw (p, q)
scalar-value (suc left) s at nodes p q = rw (p, q)

-- the first byte of a number is a digit or a minus
pub numeral-first : {s : Bytes} {at : ℕ} (t r : Bytes) → number t 0 ≡ ok (length t) → Rest s at (t ++ r) → (is_digit (byte s at) || eqb (byte s at) 45) ≡ true
unfolding byte
numeral-first {s} {at} t r n h =
    let same : byte s at ≡ byte t 0 = ap (byte s) (sym (add-zero at)) ∙ byte_at h 0 ∙ get_or-append t r 0 0 (number-some t n) in
    rw same (number-first t n)

pub numeral_bounds : (b : ℕ) → (is_digit b || eqb b 45) ≡ true → (45 ≤ b) × (b ≤ 57)
numeral_bounds b h = go (is_digit b) refl h
  where
    go : (d : Bool) → is_digit b ≡ d → (d || eqb b 45) ≡ true → (45 ≤ b) × (b ≤ 57)
    go true q h = let bounds = digit_bounds b q in (omega arith, omega arith)
    go false q h = let minus = eqb-true b 45 h in (omega arith, omega arith)

pub numeral_back : {s : Bytes} {at : ℕ} (left nodes : ℕ) → nodes < 2048 → (r t : Bytes)
    → number t 0 ≡ ok (length t) → Ends (byte s (at + length t)) → Rest s at (t ++ r) →
    value left s at nodes ≡ ok (leaf (Label.number t), at + length t)
unfolding scalar number_value ◌>>=◌
numeral_back {s} {at} left nodes fits r t n e h =
    let first = numeral-first t r n h in
    let b = numeral_bounds (byte s at) first in
    let part : take (at + length t - at) (drop at s) ≡ t = rw (add-sub_cancel_left at (length t), h.is) (take-append_seam t r) in
    scalar-value left s at nodes (ne_eqb (byte s at) 91 (omega arith)) (ne_eqb (byte s at) 123 (omega arith)) ∙
    rw (ne_eqb (byte s at) 34 (omega arith), first, room nodes at fits, number-back t r n e h, part)

numeral_no_blank : (b : ℕ) → (is_digit b || eqb b 45) ≡ true → is_blank b ≡ false
unfolding is_blank
numeral_no_blank b h =
    let n = numeral_bounds b h in
    rw (ne_eqb b 0x20 (omega arith), ne_eqb b 0x09 (omega arith), ne_eqb b 0x0A (omega arith), ne_eqb b 0x0D (omega arith))

pub number-text : (t : Bytes) → number t 0 ≡ ok (length t) → NumberText t
unfolding read byte is_blank ◌>>=◌
number-text t n =
    let end = past_end t {at = length t} (omega arith) in
    let text : Rest t 0 (t ++ []) = record { is = sym (append-nil t) } in
    let reads : value max_depth t 0 0 ≡ ok (leaf (Label.number t), 0 + length t) = numeral_back max_depth 0
    (omega arith) [] t n (rw (zero-add (length t), end) nothing_ends) text in
    rw (
      blanks_none t 0 (numeral_no_blank (byte t 0) (number-first t n)),
      reads,
      zero-add (length t),
      blanks_none t (length t) (ap is_blank end),
      eq-eqb (length t) (length t) refl,
    )

-- A value that is read and is a number has the text of one number.

abbrev Numeral : Label → Type 0
Numeral Label.null_literal = Unit {0}
Numeral Label.true_literal = Unit {0}
Numeral Label.false_literal = Unit {0}
Numeral Label.array = Unit {0}
Numeral Label.object = Unit {0}
Numeral (Label.number t) = number t 0 ≡ ok (length t)
Numeral (Label.string cs) = Unit {0}

pub room_there : {A : Type 0} (nodes at : ℕ) (o : Outcome A) {a : A} → (room_for nodes at >>= λ _. o) ≡ ok a → (nodes < 2048) × (o ≡ ok a)
unfolding room_for
room_there nodes at o h =
    let (p, e, i) = both_ok (room_for nodes at) _ _ h in
    if_ok (ltb nodes 2048) e (λ t _. (ltb-true nodes 2048 t, i)) (λ _ j. absurd (refused≢ok j))

module _ (s : Bytes) (at : ℕ) (v : Value.Value) (next : ℕ) where
  literal_numeral : (l : Label) (word : Bytes) → Numeral l → literal_value l word s at ≡ ok (v, next) → Numeral v.label
  unfolding literal_value
  literal_numeral l word n h =
      let (_, _, i) = both_ok (word_at word s (at + 1)) _ _ h in
      subst (λ v. Numeral v.label) (first_ok i) n

  scalar-numeral : (nodes : ℕ) → scalar s at nodes ≡ ok (v, next) → Numeral v.label
  unfolding scalar number_value string_value
  scalar-numeral nodes h =
      either_ok (eqb (byte s at) 34) h
      (λ i.
      let (_, j) = room_there nodes at _ i in
      let (_, _, k) = both_ok (string s at) _ _ j in
      subst (λ v. Numeral v.label) (first_ok k) tt) λ h.
      either_ok (is_digit (byte s at) || eqb (byte s at) 45) h
      (λ i.
      let (_, j) = room_there nodes at _ i in
      let (end, e, k) = both_ok (number s at) _ _ j in
      subst (λ v. Numeral v.label) (first_ok k) (number-alone s at end e)) λ h.
      either_ok (eqb (byte s at) 110) h (λ i. literal_numeral Label.null_literal _ tt (room_there nodes at _ i).1) λ h.
      either_ok (eqb (byte s at) 116) h (λ i. literal_numeral Label.true_literal _ tt (room_there nodes at _ i).1) λ h.
      either_ok (eqb (byte s at) 102) h (λ i. literal_numeral Label.false_literal _ tt (room_there nodes at _ i).1) λ h.
      absurd (refused≢ok h)

  container-numeral : (reader : ℕ → ℕ → Outcome (Value.Value × ℕ)) (object : Bool) (nodes : ℕ) →
      container reader object s at nodes ≡ ok (v, next) → Numeral v.label
  unfolding container container_label
  container-numeral reader object nodes h =
      let (_, i) = room_there nodes at _ h in
      let (kids, _, j) = both_ok (contents reader object s (nodes + 1) (at + 1)) _ _ i in
      subst (λ v. Numeral v.label) (first_ok j) (go object)
    where
      go : (object : Bool) → Numeral (container_label object)
      go true = tt
      go false = tt

  value-numeral : (left nodes : ℕ) → value left s at nodes ≡ ok (v, next) → Numeral v.label
  unfolding value
  value-numeral zero nodes h =
      either_ok (eqb (byte s at) 91) h (λ i. absurd (refused≢ok i)) λ h.
      either_ok (eqb (byte s at) 123) h (λ i. absurd (refused≢ok i)) (scalar-numeral nodes)
  value-numeral (suc left) nodes h =
      either_ok (eqb (byte s at) 91) h (container-numeral (value left s) false nodes) λ h.
      either_ok (eqb (byte s at) 123) h (container-numeral (value left s) true nodes) (scalar-numeral nodes)

read-numeral : (s : Bytes) (v : Value.Value) → read s ≡ ok v → Numeral v.label
unfolding read
read-numeral s v h =
    let (v_next, e, i) = both_ok (value max_depth s (blanks s 0) 0) _ _ h in
    either_ok (eqb (blanks s v_next.1) (length s)) i
    (λ j. let same : v_next.0 ≡ v = cc in subst (λ w. Numeral w.label) same (value-numeral s (blanks s 0) v_next.0 v_next.1 max_depth 0 e))
    (λ j. absurd (refused≢ok j))

pub text-number : (t : Bytes) → NumberText t → number t 0 ≡ ok (length t)
text-number t h = read-numeral t (leaf (Label.number t)) h
