-- The reader of numbers is complete: it reads a number that fits, up to a byte that does not continue it.
use Rattle.std.specs.Prelude.{if◌then◌else◌}
use Prim.Native.Nat.{ℕ, zero, suc, ◌+◌, ◌-◌, ◌*◌, ◌<◌, ◌≤◌}
use mathlib.Core.Path.{◌≡◌, refl, ap, subst, sym, ◌∙◌}
use mathlib.Core.Bool.{Bool, true, false, ◌||◌}
use mathlib.Core.List.{[], ◌∷◌, ◌++◌}
use native.Mathlib.Omega.{arith}
use lib.ListN.{length}
use lib.IntN.{pos, neg_ℤ, nat_abs}
use lib.Dec.{eqb, leb, ltb}
use borrow.Author.Tests.{ne_eqb, ltb-false, leb-false}
use Rattle.spec.specs.Outcome.{Outcome, ok, refused, ◌>>=◌}
use Rattle.spec.specs.Refusal.{number_over_limit}
use Rattle.spec.specs.Limits.{max_number, max_exponent}
use Rattle.spec.specs.Bytes.{Bytes, byte, within}
use Rattle.spec.specs.Worth.{decimal, exponent, signed_exponent}
use Rattle.spec.specs.Numbers as Numbers
use Rattle.spec.specs.Numbers.{is_digit, is_e, counted, digits, some_digits, exponent_digits, signed_digits}
use Rattle.grammar.specs.Grammar.{%x, optional, DIGIT, *DIGIT, 1*DIGIT, minus, int, frac, e, sign, exp, number}
use Rattle.grammar.specs.Limits.{NumberFits}
use Rattle.grammar.proofs.Places.{From, first, split, at_end}
use Rattle.grammar.proofs.Tests.{neither, in_range, below_range}
use Rattle.grammar.proofs.Complete.{Reads, reads, exceeds, reads_ok, reads_then}
use Rattle.grammar.proofs.StringsComplete.{byte_in_reads}

-- the bytes of numbers, and a byte that continues none
unfoldable pub in_number : ℕ → Bool
in_number b = is_digit b || (is_e b || (eqb b 0x2E || (eqb b 0x2B || eqb b 0x2D)))

pub record Stops (b : ℕ) : Type 0 where
  pub outside : in_number b ≡ false

module _ {b : ℕ} (h : Stops b) where
  stops_tests : (is_digit b ≡ false) × (is_e b ≡ false) × (eqb b 0x2E ≡ false)
  unfolding in_number
  stops_tests =
      let (d, r) = neither (is_digit b) _ h.outside in
      let (x, q) = neither (is_e b) _ r in
      (d, x, (neither (eqb b 0x2E) _ q).0)

is_digit_lem : {b : ℕ} → DIGIT b → is_digit b ≡ true
unfolding is_digit
is_digit_lem {b} d = in_range 0x30 0x39 b d.0 d.1

no_digit_below : (b : ℕ) → b < 0x30 → is_digit b ≡ false
unfolding is_digit
no_digit_below b l = below_range 0x30 0x39 b l

pub is_e_lem : {b : ℕ} → e b → is_e b ≡ true
unfolding is_e
is_e_lem e.lower_case = refl
is_e_lem e.upper_case = refl

no-e-digit : {b : ℕ} → DIGIT b → is_e b ≡ false
unfolding is_e
no-e-digit {b} d = rw (ne_eqb b 0x65 (λ i. omega arith), ne_eqb b 0x45 (λ i. omega arith))

-- the exponent's digits
nat_abs_neg : (n : ℕ) → nat_abs (neg_ℤ (pos n)) ≡ n
nat_abs_neg zero = refl
nat_abs_neg (suc n) = refl

pub signed_size : {w ds : Bytes} → optional sign w → *DIGIT ds → nat_abs (signed_exponent (w ++ ds)) ≡ decimal 0 ds
unfolding signed_exponent decimal
signed_size optional.absent *DIGIT.none = refl
signed_size optional.absent (*DIGIT.more {d = b} d ds) = rw (ne_eqb b 0x2D (λ i. omega arith), ne_eqb b 0x2B (λ i. omega arith))
signed_size (optional.present sign.minus-sign) d = nat_abs_neg _
signed_size (optional.present sign.plus-sign) d = refl

pub exponent-size : {b : ℕ} {w ds : Bytes} → e b → optional sign w → 1*DIGIT ds → nat_abs (exponent (b ∷ (w ++ ds))) ≡ decimal 0 ds
unfolding exponent
exponent-size x p (1*DIGIT.some d ds) = rw (is_e_lem x) (signed_size p (*DIGIT.more d ds))

-- the digits of an exponent are worth at least what they begin with
decimal_grows : (n : ℕ) (w : Bytes) → n ≤ decimal n w
unfolding decimal
decimal_grows n [] = omega arith
decimal_grows n (b ∷ w) = omega (arith, decimal_grows (n * 10 + (b - 0x30)) w)

-- in a number from `start` to `last`, which is asked to have at most 128 bytes
module _ {asked : Type 0} (s : Bytes) (start last : ℕ) (short : asked → last ≤ start + max_number) where
  counted_reads : (at : ℕ) → at < last → Reads (at + 1) asked (counted start at)
  unfolding counted
  counted_reads at l = go (ltb at (start + max_number)) refl
    where
      go : (c : Bool) → ltb at (start + max_number) ≡ c → Reads (at + 1) asked (if c then ok (at + 1) else refused number_over_limit at)
      go true h = reads
      go false h =
          exceeds {number = number_over_limit} (λ i. omega arith) (λ a. let m = ltb-false at (start + max_number) h in let n = short a in omega arith)

  digits-read : (fuel : ℕ) {w : Bytes} {at next : ℕ} → *DIGIT w → From s at w next → next ≤ last → is_digit (byte s next) ≡ false →
      length s ≤ fuel + at →
      Reads next asked (digits fuel s start at)
  unfolding digits
  digits-read zero {at = at} d f l stop enough = reads_ok (ok at) (ap ok (sym (at_end f (omega arith))))
  digits-read (suc fuel) {at = at} {next = next} *DIGIT.none f l stop enough =
      let far = f.far in
      let same : at ≡ next = omega arith in
      rw (same, stop) reads
  digits-read (suc fuel) {at = at} (*DIGIT.more {d = b} d ds) f l stop enough =
      let (here, g, _) = first f in
      let far = f.far in
      let rest = digits-read fuel ds g l stop (omega arith) in
      rw (here, is_digit_lem d) (reads_then (digits fuel s start) (counted_reads at (omega arith)) rest)

  some_digits-read : {w : Bytes} {at next : ℕ} → 1*DIGIT w → From s at w next → next ≤ last → is_digit (byte s next) ≡ false →
      Reads next asked (some_digits s start at)
  unfolding some_digits ◌>>=◌
  some_digits-read {at = at} (1*DIGIT.some {d = b} d ds) f l stop =
      let (here, _, _) = first f in
      rw (byte_in_reads s at 0x30 0x39 here d.0 d.1) (digits-read (length s) (*DIGIT.more d ds) f l stop (omega arith))

  int-reads : {w : Bytes} {at next : ℕ} → int w → From s at w next → next ≤ last → is_digit (byte s next) ≡ false →
      Reads next asked (Numbers.int s start at)
  unfolding Numbers.int
  int-reads {at = at} int.zero f l stop =
      let (here, _, _) = first f in
      let far = f.far in
      rw (here, far) (counted_reads at (omega arith))
  int-reads {at = at} (int.nonzero {d = b} d ds) f l stop =
      let (here, _, _) = first f in
      rw (here, ne_eqb b 0x30 (λ i. omega arith)) (some_digits-read (1*DIGIT.some (omega arith) ds) f l stop)

  frac-reads : {w : Bytes} {at next : ℕ} → optional frac w → From s at w next → next ≤ last → is_digit (byte s next) ≡ false →
      eqb (byte s next) 0x2E ≡ false →
      Reads next asked (Numbers.frac s start at)
  unfolding Numbers.frac
  frac-reads {at = at} {next = next} optional.absent f l stop point =
      let far = f.far in
      let same : at ≡ next = omega arith in
      rw (same, point) reads
  frac-reads {at = at} (optional.present (frac.decimal_point ds)) f l stop point =
      let (here, g, _) = first f in
      let far = f.far in
      let rest = some_digits-read ds g l stop in
      rw here (reads_then (some_digits s start) (counted_reads at (omega arith)) rest)

  sign_reads : {w : Bytes} {at next : ℕ} → optional sign w → From s at w next → next ≤ last → DIGIT (byte s next) →
      Reads next asked (Numbers.sign s start at)
  unfolding Numbers.sign
  sign_reads {at = at} {next = next} optional.absent f l d =
      let far = f.far in
      let same : at ≡ next = omega arith in
      rw (same, ne_eqb (byte s next) 0x2B (λ i. omega arith), ne_eqb (byte s next) 0x2D (λ i. omega arith)) reads
  sign_reads {at = at} (optional.present sign.minus-sign) f l d =
      let (here, _, _) = first f in
      let far = f.far in
      rw (here, far) (counted_reads at (omega arith))
  sign_reads {at = at} (optional.present sign.plus-sign) f l d =
      let (here, _, _) = first f in
      let far = f.far in
      rw (here, far) (counted_reads at (omega arith))

  exponent_digits-read : (fuel size : ℕ) {w : Bytes} {at next : ℕ} → *DIGIT w → From s at w next → next ≤ last → is_digit (byte s next) ≡ false →
      length s ≤ fuel + at →
      (asked → decimal size w ≤ max_exponent) → Reads next asked (exponent_digits fuel s start size at)
  unfolding exponent_digits decimal
  exponent_digits-read zero size {at = at} d f l stop enough fits = reads_ok (ok at) (ap ok (sym (at_end f (omega arith))))
  exponent_digits-read (suc fuel) size {at = at} {next = next} *DIGIT.none f l stop enough fits =
      let far = f.far in
      let same : at ≡ next = omega arith in
      rw (same, stop) reads
  exponent_digits-read (suc fuel) size {at = at} {next = next} (*DIGIT.more {d = b} {w = w} d ds) f l stop enough fits =
      let (here, g, _) = first f in
      let far = f.far in
      let rest = exponent_digits-read fuel (size * 10 + (b - 0x30)) ds g l stop (omega arith) fits in
      rw (here, is_digit_lem d)
      (go (leb (size * 10 + (b - 0x30)) max_exponent) refl
      (reads_then (exponent_digits fuel s start (size * 10 + (b - 0x30))) (counted_reads at (omega arith)) rest))
    where
      go : (c : Bool) → leb (size * 10 + (b - 0x30)) max_exponent ≡ c → {o : Outcome ℕ} → Reads next asked o →
          Reads next asked (if c then o else refused number_over_limit at)
      go true h r = r
      go false h r =
          exceeds {number = number_over_limit} (λ i. omega arith)
          (λ a. let m = leb-false (size * 10 + (b - 0x30)) max_exponent h in let n = fits a in omega (arith, decimal_grows (size * 10 + (b - 0x30)) w))

  signed_digits-read : {w ds : Bytes} {at next : ℕ} → optional sign w → 1*DIGIT ds → From s at (w ++ ds) next → next ≤ last →
      is_digit (byte s next) ≡ false →
      (asked → decimal 0 ds ≤ max_exponent) → Reads next asked (signed_digits s start at)
  unfolding signed_digits ◌>>=◌
  signed_digits-read {w} {at = at} p (1*DIGIT.some {d = b} {w = w'} d ds) f l stop fits =
      let (g, h) = split w (b ∷ w') f in
      let (here, _, _) = first h in
      let far = h.far in
      reads_then _ (sign_reads p g (omega arith) (rw here d))
      (rw (byte_in_reads s (at + length w) 0x30 0x39 here d.0 d.1) (exponent_digits-read (length s) 0 (*DIGIT.more d ds) h l stop (omega arith) fits))

  exp-reads : {w : Bytes} {at next : ℕ} → optional exp w → From s at w next → next ≤ last → Stops (byte s next) →
      (asked → nat_abs (exponent w) ≤ max_exponent) →
      Reads next asked (Numbers.exp s start at)
  unfolding Numbers.exp
  exp-reads {at = at} {next = next} optional.absent f l stop fits =
      let far = f.far in
      let same : at ≡ next = omega arith in
      rw (same, (stops_tests stop).1) reads
  exp-reads {at = at} (optional.present (exp.exponent {b = b} {s = w} {w = ds} x p d)) f l stop fits =
      let (here, g, _) = first f in
      let far = f.far in
      let rest = signed_digits-read p d g l (stops_tests stop).0 (λ a. subst (λ n. n ≤ max_exponent) (exponent-size x p d) (fits a)) in
      rw (here, is_e_lem x) (reads_then (signed_digits s start) (counted_reads at (omega arith)) rest)

-- no byte before the exponent is its letter
digits-exponent : {w : Bytes} → *DIGIT w → (t : Bytes) → exponent (w ++ t) ≡ exponent t
unfolding exponent
digits-exponent *DIGIT.none t = refl
digits-exponent (*DIGIT.more d ds) t = rw (no-e-digit d) (digits-exponent ds t)

pub int-exponent : {w : Bytes} → int w → (t : Bytes) → exponent (w ++ t) ≡ exponent t
unfolding exponent is_e
int-exponent int.zero t = refl
int-exponent (int.nonzero {d = b} d ds) t = digits-exponent (*DIGIT.more {d = b} (omega arith) ds) t

pub frac-exponent : {w : Bytes} → optional frac w → (t : Bytes) → exponent (w ++ t) ≡ exponent t
unfolding exponent is_e
frac-exponent optional.absent t = refl
frac-exponent (optional.present (frac.decimal_point (1*DIGIT.some d ds))) t = digits-exponent (*DIGIT.more d ds) t

pub minus-exponent : {w : Bytes} → optional minus w → (t : Bytes) → exponent (w ++ t) ≡ exponent t
unfolding exponent is_e
minus-exponent optional.absent t = refl
minus-exponent (optional.present minus.minus-sign) t = refl

-- what the parts of a number begin with
exp-begins : {s w : Bytes} {at next : ℕ} → optional exp w → From s at w next → Stops (byte s next) →
    (is_digit (byte s at) ≡ false) × (eqb (byte s at) 0x2E ≡ false)
unfolding is_digit within
exp-begins {at = at} {next = next} optional.absent f stop =
    let far = f.far in
    let same : at ≡ next = omega arith in
    rw same ((stops_tests stop).0, (stops_tests stop).2)
exp-begins (optional.present (exp.exponent e.lower_case p d)) f stop = let (here, _, _) = first f in rw here (refl, refl)
exp-begins (optional.present (exp.exponent e.upper_case p d)) f stop = let (here, _, _) = first f in rw here (refl, refl)

frac-begins : {s w : Bytes} {at next : ℕ} → optional frac w → From s at w next → is_digit (byte s next) ≡ false → is_digit (byte s at) ≡ false
frac-begins {at = at} {next = next} optional.absent f stop =
    let far = f.far in
    let same : at ≡ next = omega arith in
    rw same stop
frac-begins (optional.present (frac.decimal_point d)) f stop = let (here, _, _) = first f in rw here (no_digit_below 0x2E (omega arith))

-- a number begins with a digit or a minus
int-begins : {s w : Bytes} {at next : ℕ} → int w → From s at w next → DIGIT (byte s at)
int-begins int.zero f = let (here, _, _) = first f in rw here (omega arith)
int-begins (int.nonzero d ds) f = let (here, _, _) = first f in rw here (omega arith)

minus-reads : {s w : Bytes} {at next : ℕ} → optional minus w → From s at w next → DIGIT (byte s next) → Numbers.minus s at ≡ next
unfolding Numbers.minus
minus-reads {s} {at = at} {next = next} optional.absent f d =
    let far = f.far in
    let same : at ≡ next = omega arith in
    rw (same, ne_eqb (byte s next) 0x2D (λ i. omega arith))
minus-reads (optional.present minus.minus-sign) f d = let (here, _, _) = first f in rw (here, f.far)

pub record NumberBegins (b : ℕ) : Type 0 where
  pub starts : (is_digit b || eqb b 0x2D) ≡ true
  pub range : %x 0x2D 0x39 b

pub number-begins : {s w : Bytes} {at next : ℕ} → number w → From s at w next → NumberBegins (byte s at)
number-begins {s} {at = at} (number.parts {m} {i} {f} {x} optional.absent pi pf px) from =
    let d = int-begins pi (split i (f ++ x) from).0 in
    record { starts = rw (is_digit_lem d); range = omega arith }
number-begins (number.parts (optional.present minus.minus-sign) pi pf px) from =
    let (here, _, _) = first from in
    rw here (record { starts = rw (no_digit_below 0x2D (omega arith)); range = omega arith })

pub number-reads : {s w : Bytes} {at next : ℕ} → number w → From s at w next → Stops (byte s next) → Reads next (NumberFits w) (Numbers.number s at)
unfolding Numbers.number
number-reads {s} {at = at} {next = next} (number.parts {m} {i} {f} {x} pm pi pf px) from stop =
    let (fm, f₁) = split m (i ++ (f ++ x)) from in
    let (fi, f₂) = split i (f ++ x) f₁ in
    let (ff, fx) = split f x f₂ in
    let far = fx.far in
    let short : NumberFits (m ++ (i ++ (f ++ x))) → next ≤ at + max_number = λ a. let l = a.short in let far = from.far in omega arith in
    let (no_digit, no_point) = exp-begins px fx stop in
    let fits : NumberFits (m ++ (i ++ (f ++ x))) → nat_abs (exponent x) ≤ max_exponent =
    λ a. subst (λ z. nat_abs z ≤ max_exponent) (minus-exponent pm _ ∙ int-exponent pi _ ∙ frac-exponent pf x) a.exponent_fits in
    rw (minus-reads pm fm (int-begins pi fi))
    (reads_then _ (int-reads s at next short pi fi (omega arith) (frac-begins pf ff no_digit))
    (reads_then _ (frac-reads s at next short pf ff (omega arith) no_digit no_point)
    (exp-reads s at next short px fx (omega arith) stop fits)))
