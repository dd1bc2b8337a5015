-- A number that the reader takes is within the limits, so that `same_number` answers by what the two numbers are worth.
use Rattle.std.specs.Prelude.{if◌then◌else◌}
use Prim.Native.Nat.{ℕ, zero, suc, ◌+◌, ◌-◌, ◌*◌, ◌≤◌, ◌<◌}
use Prim.Native.Char.{code}
use mathlib.Core.Path.{◌≡◌, refl, sym, ◌∙◌}
use mathlib.Core.List.{[], ◌∷◌}
use mathlib.Core.Bool.{Bool, true, false, ◌||◌, true≢false}
use native.Mathlib.Omega.{arith}
use native.Mathlib.Nat.{min-le_left}
use native.Mathlib.Decide.{dec_lt}
use borrow.Author.Tests.{ne_eqb, eqb-true, le-leb, leb-true, ltb-true, lt-ltb}
use lib.ListN.{length, get_or, take, drop, length-take, get_or-eq_default}
use lib.Seq.{take-length}
use lib.Dec.{eqb, leb, ltb}
use lib.IntN.{pos, neg_ℤ, nat_abs}
use Rattle.spec.specs.Outcome.{Outcome, ok, refused, ◌>>=◌}
use Rattle.spec.specs.Refusal.{not_json, number_over_limit}
use Rattle.spec.specs.Limits.{max_number, max_exponent}
use Rattle.spec.specs.Bytes.{Bytes, byte, byte_in, within}
use Rattle.spec.specs.Numbers.{is_digit, is_e, counted, digits, some_digits, int, frac, sign, exponent_digits, signed_digits, exp, minus, number}
use Rattle.spec.specs.Worth.{decimal, signed_exponent, exponent, worth}
use Rattle.spec.specs.Equality.{same_worth}
use Rattle.decimal.specs.Normal.{within_limits, same_number}
use Rattle.decimal.proofs.MantissaLaws.{from_here, within_bounds}
use Rattle.decimal.proofs.IntegerLaws.{negated_size}
use Rattle.decimal.proofs.NormalLaws.{both-within_limits}

-- ---- steps that succeed

bound : {A B : Type 0} (o : Outcome A) (f : A → Outcome B) {b : B} → (o >>= f) ≡ ok b → (a : A) × ((o ≡ ok a) × (f a ≡ ok b))
unfolding ◌>>=◌
bound (ok a) f e = (a, (refl, e))
bound (refused number place) f e = let z : ◌≡◌ {A = ℕ} 0 1 = cc in absurd (omega arith)

same_ok : {A : Type 0} {a b : A} → ok a ≡ ok b → a ≡ b
same_ok e = cc

-- a byte that is not 0 stands within the text
inside : (s : Bytes) (at : ℕ) → 0 < byte s at → at < length s
unfolding byte
inside s at h = go (dec_lt at (length s))
  where
    go : Dec (at < length s) → at < length s
    go (yes l) = l
    go (no l) = let z : get_or s at 0 ≡ 0 = get_or-eq_default s 0 (omega arith) in absurd (omega arith)

counted_is : (start at next : ℕ) → counted start at ≡ ok next → (at < start + max_number) × (next ≡ at + 1)
unfolding counted
counted_is start at next e = go (ltb at (start + max_number)) refl e
  where
    go : (t : Bool) → ltb at (start + max_number) ≡ t → (if t then ok (at + 1) else refused number_over_limit at) ≡ ok next →
        (at < start + max_number) × (next ≡ at + 1)
    go true t e = (ltb-true at (start + max_number) t, sym (same_ok e))
    go false t e = let z : ◌≡◌ {A = ℕ} 0 1 = cc in absurd (omega arith)

-- ---- a part of a text

abbrev part : Bytes → ℕ → ℕ → Bytes
part s at end = take (end - at) (drop at s)

part_cons : (s : Bytes) (at end : ℕ) → at < length s → at < end → part s at end ≡ byte s at ∷ part s (at + 1) end
unfolding byte
part_cons s at end h l =
    let n : end - at ≡ suc (end - (at + 1)) = omega arith in
    rw (n, from_here s at h)

part_none : (s : Bytes) (at end : ℕ) → end ≤ at → part s at end ≡ []
part_none s at end h = let n : end - at ≡ 0 = omega arith in rw n

-- A reader of a number came from one place to another: it passed no limit, and no letter of an exponent.
record Passed (s : Bytes) (start at next : ℕ) : Type 0 where
  forward : at ≤ next
  short : at ≤ start + max_number → next ≤ start + max_number
  skips : (end : ℕ) → next ≤ end → exponent (part s at end) ≡ exponent (part s next end)

stays : (s : Bytes) (start at : ℕ) → Passed s start at at
stays s start at = record { forward = omega arith; short = λ h. h; skips = λ end l. refl }

onwards : {s : Bytes} {start at middle next : ℕ} → Passed s start at middle → Passed s start middle next → Passed s start at next
onwards p q =
    record {
      forward = omega (arith, p.forward, q.forward);
      short = λ h. q.short (p.short h);
      skips = λ end l. p.skips end (omega (arith, q.forward)) ∙ q.skips end l;
    }

-- the bytes of a number before its exponent come before the letter E in ASCII
passes : (s : Bytes) (start at next : ℕ) → 0 < byte s at → byte s at < code "E" → counted start at ≡ ok next → Passed s start at next
unfolding exponent is_e
passes s start at next h l e =
    let c = counted_is start at next e in
    let upper : eqb (byte s at) (code "E") ≡ false = ne_eqb (byte s at) (code "E") (λ x. omega arith) in
    let lower : eqb (byte s at) (code "e") ≡ false = ne_eqb (byte s at) (code "e") (λ x. omega arith) in
    rw c.1
    (record {
      forward = omega arith;
      short = λ _. omega arith;
      skips = λ end m. rw (part_cons s at end (inside s at h) (omega arith), lower, upper);
    })

-- ---- each reader before the exponent

passes_byte : (s : Bytes) (start at next b : ℕ) → byte s at ≡ b → 0 < b → b < code "E" → counted start at ≡ ok next → Passed s start at next
passes_byte s start at next b t p l e = passes s start at next (omega arith) (omega arith) e

passes_digit : (s : Bytes) (start at next : ℕ) → is_digit (byte s at) ≡ true → counted start at ≡ ok next → Passed s start at next
unfolding is_digit
passes_digit s start at next d e =
    let h = within_bounds (code "0") (code "9") (byte s at) d in passes s start at next (omega arith) (omega arith) e

digits_pass : (fuel : ℕ) (s : Bytes) (start at next : ℕ) → digits fuel s start at ≡ ok next → Passed s start at next
unfolding digits
digits_pass zero s start at next e = rw (same_ok e) (stays s start next)
digits_pass (suc fuel) s start at next e = go (is_digit (byte s at)) refl e (λ m. digits_pass fuel s start m next)
  where
    go : (d : Bool) → is_digit (byte s at) ≡ d → (if d then counted start at >>= digits fuel s start else ok at) ≡ ok next →
        ((m : ℕ) → digits fuel s start m ≡ ok next → Passed s start m next) → Passed s start at next
    go true d e ih =
        let b = bound (counted start at) (digits fuel s start) e in onwards (passes_digit s start at b.0 d b.1.0) (ih b.0 b.1.1)
    go false d e ih = rw (same_ok e) (stays s start next)

some_digits_pass : (s : Bytes) (start at next : ℕ) → some_digits s start at ≡ ok next → Passed s start at next
unfolding some_digits
some_digits_pass s start at next e =
    digits_pass (length s) s start at next (bound (byte_in s at (code "0") (code "9")) (λ _. digits (length s) s start at) e).1.1

int-passes : (s : Bytes) (start at next : ℕ) → int s start at ≡ ok next → Passed s start at next
unfolding int
int-passes s start at next e = go (eqb (byte s at) (code "0")) refl e
  where
    go : (z : Bool) → eqb (byte s at) (code "0") ≡ z → (if z then counted start at else some_digits s start at) ≡ ok next → Passed s start at next
    go true z e = passes_byte s start at next (code "0") (eqb-true (byte s at) (code "0") z) (omega arith) (omega arith) e
    go false z e = some_digits_pass s start at next e

frac-passes : (s : Bytes) (start at next : ℕ) → frac s start at ≡ ok next → Passed s start at next
unfolding frac
frac-passes s start at next e = go (eqb (byte s at) (code ".")) refl e
  where
    go : (p : Bool) → eqb (byte s at) (code ".") ≡ p → (if p then counted start at >>= some_digits s start else ok at) ≡ ok next → Passed s start at next
    go true p e =
        let b = bound (counted start at) (some_digits s start) e in
        onwards (passes_byte s start at b.0 (code ".") (eqb-true (byte s at) (code ".") p) (omega arith) (omega arith) b.1.0)
        (some_digits_pass s start b.0 next b.1.1)
    go false p e = rw (same_ok e) (stays s start next)

minus-passes : (s : Bytes) (start : ℕ) → Passed s start start (minus s start)
unfolding minus counted
minus-passes s start = go (eqb (byte s start) (code "-")) refl
  where
    go : (m : Bool) → eqb (byte s start) (code "-") ≡ m → Passed s start start (if m then start + 1 else start)
    go true m =
        passes_byte s start start (start + 1) (code "-") (eqb-true (byte s start) (code "-") m) (omega arith) (omega arith)
        (rw (lt-ltb start (start + max_number) (omega arith)))
    go false m = stays s start start

-- ---- the exponent

-- A reader came to the end of a number within its length, and the exponent's size, which F tells from what it read, is within its limit.
record Ends (F : Bytes → ℕ) (s : Bytes) (start at end : ℕ) : Type 0 where
  forward : at ≤ end
  short : at ≤ start + max_number → end ≤ start + max_number
  small : F (part s at end) ≤ max_exponent

ends_here : (F : Bytes → ℕ) (s : Bytes) (start at : ℕ) → F [] ≤ max_exponent → Ends F s start at at
ends_here F s start at h = record { forward = omega arith; short = λ l. l; small = rw (part_none s at at (omega arith)) h }

-- a byte of the number, and the rest
ends_after : (F G : Bytes → ℕ) (s : Bytes) (start at next end : ℕ) → 0 < byte s at → counted start at ≡ ok next →
    ((t : Bytes) → F (byte s at ∷ t) ≡ G t) → Ends G s start next end → Ends F s start at end
ends_after F G s start at next end h c same r =
    let n = counted_is start at next c in
    let l : at < end = omega (arith, r.forward) in
    record {
      forward = omega arith;
      short = λ _. r.short (omega arith);
      small = rw (part_cons s at end (inside s at h) l, same) (rw n.1 at r.small);
    }

digits_end : (fuel : ℕ) (s : Bytes) (start size at end : ℕ) → size ≤ max_exponent
    → exponent_digits fuel s start size at ≡ ok end → Ends (decimal size) s start at end
unfolding exponent_digits decimal is_digit
digits_end zero s start size at end h e = rw (same_ok e) (ends_here (decimal size) s start end h)
digits_end (suc fuel) s start size at end h e =
    go (is_digit (byte s at)) (leb more max_exponent) refl refl e (λ l m. digits_end fuel s start more m end l)
  where
    more : ℕ
    more = size * 10 + (byte s at - code "0")

    go : (d l : Bool) → is_digit (byte s at) ≡ d → leb more max_exponent ≡ l →
        (if d then (if l then counted start at >>= exponent_digits fuel s start more else refused number_over_limit at) else ok at) ≡ ok end →
        (more ≤ max_exponent → (m : ℕ) → exponent_digits fuel s start more m ≡ ok end → Ends (decimal more) s start m end) → Ends (decimal size) s start at end
    go true true d l e ih =
        let b = bound (counted start at) (exponent_digits fuel s start more) e in
        let w = within_bounds (code "0") (code "9") (byte s at) d in
        ends_after (decimal size) (decimal more) s start at b.0 end (omega arith) b.1.0 (λ t. refl) (ih (leb-true more max_exponent l) b.0 b.1.1)
    go true false d l e ih = let z : ◌≡◌ {A = ℕ} 0 1 = cc in absurd (omega arith)
    go false l d _ e ih = rw (same_ok e) (ends_here (decimal size) s start end h)

abbrev size : Bytes → ℕ
size t = nat_abs (signed_exponent t)

size-sign : (b : ℕ) → (eqb b (code "+") || eqb b (code "-")) ≡ true → (t : Bytes) → size (b ∷ t) ≡ decimal 0 t
unfolding signed_exponent
size-sign b h t = go (eqb b (code "-")) (eqb b (code "+")) h
  where
    go : (minus plus : Bool) → (plus || minus) ≡ true →
        nat_abs (if minus then neg_ℤ (pos (decimal 0 t)) else if plus then pos (decimal 0 t) else pos (decimal 0 (b ∷ t))) ≡ decimal 0 t
    go true plus h = negated_size (decimal 0 t)
    go false true h = refl
    go false false h = absurd (true≢false (sym h))

size-digits : (b : ℕ) → code "0" ≤ b → (t : Bytes) → size (b ∷ t) ≡ decimal 0 (b ∷ t)
unfolding signed_exponent
size-digits b h t = rw (ne_eqb b (code "-") (λ e. omega arith), ne_eqb b (code "+") (λ e. omega arith))

size-part : (s : Bytes) (at end : ℕ) → code "0" ≤ byte s at → size (part s at end) ≡ decimal 0 (part s at end)
unfolding decimal signed_exponent
size-part s at end h = go (dec_lt at end)
  where
    go : Dec (at < end) → size (part s at end) ≡ decimal 0 (part s at end)
    go (yes l) = rw (part_cons s at end (inside s at (omega arith)) l) (size-digits (byte s at) h (part s (at + 1) end))
    go (no l) = rw (part_none s at end (omega arith))

byte_in_lem : (s : Bytes) (at low high b : ℕ) → byte_in s at low high ≡ ok b → low ≤ byte s at
unfolding byte_in
byte_in_lem s at low high b e = go (within low high (byte s at)) refl e
  where
    go : (w : Bool) → within low high (byte s at) ≡ w → (if w then ok (byte s at) else refused not_json at) ≡ ok b → low ≤ byte s at
    go true w e = (within_bounds low high (byte s at) w).0
    go false w e = let z : ◌≡◌ {A = ℕ} 0 1 = cc in absurd (omega arith)

is-sign : (b : ℕ) → (eqb b (code "+") || eqb b (code "-")) ≡ true → 0 < b
is-sign b h = go (eqb b (code "+")) refl h
  where
    go : (plus : Bool) → eqb b (code "+") ≡ plus → (plus || eqb b (code "-")) ≡ true → 0 < b
    go true p h = omega (arith, eqb-true b (code "+") p)
    go false p h = omega (arith, eqb-true b (code "-") h)

is_letter_lem : (b : ℕ) → is_e b ≡ true → 0 < b
unfolding is_e
is_letter_lem b h = go (eqb b (code "e")) refl h
  where
    go : (lower : Bool) → eqb b (code "e") ≡ lower → (lower || eqb b (code "E")) ≡ true → 0 < b
    go true p h = omega (arith, eqb-true b (code "e") p)
    go false p h = omega (arith, eqb-true b (code "E") h)

sign-ends : (s : Bytes) (start at first end : ℕ) → sign s start at ≡ ok first
    → code "0" ≤ byte s first → Ends (decimal 0) s start first end → Ends size s start at end
unfolding sign
sign-ends s start at first end e d r = go (eqb (byte s at) (code "+") || eqb (byte s at) (code "-")) refl e
  where
    go : (t : Bool) → (eqb (byte s at) (code "+") || eqb (byte s at) (code "-")) ≡ t
        → (if t then counted start at else ok at) ≡ ok first → Ends size s start at end
    go true t e = ends_after size (decimal 0) s start at first end (is-sign (byte s at) t) e (size-sign (byte s at) t) r
    go false t e =
        let same = same_ok e in
        rw same (record { forward = r.forward; short = r.short; small = rw (size-part s first end d) r.small })

signed_ends : (s : Bytes) (start at end : ℕ) → signed_digits s start at ≡ ok end → Ends size s start at end
unfolding signed_digits
signed_ends s start at end e =
    let f = bound (sign s start at) (λ first. byte_in s first (code "0") (code "9") >>= λ _. exponent_digits (length s) s start 0 first) e in
    let g = bound (byte_in s f.0 (code "0") (code "9")) (λ _. exponent_digits (length s) s start 0 f.0) f.1.1 in
    sign-ends s start at f.0 end f.1.0 (byte_in_lem s f.0 (code "0") (code "9") g.0 g.1.0)
    (digits_end (length s) s start 0 f.0 end (omega arith) g.1.1)

abbrev exponent-size : Bytes → ℕ
exponent-size t = nat_abs (exponent t)

exp-ends : (s : Bytes) (start at end : ℕ) → exp s start at ≡ ok end → Ends exponent-size s start at end
unfolding exp exponent
exp-ends s start at end e = go (is_e (byte s at)) refl e
  where
    go : (t : Bool) → is_e (byte s at) ≡ t → (if t then counted start at >>= signed_digits s start else ok at) ≡ ok end → Ends exponent-size s start at end
    go true t e =
        let b = bound (counted start at) (signed_digits s start) e in
        ends_after exponent-size size s start at b.0 end (is_letter_lem (byte s at) t) b.1.0 (λ u. rw t) (signed_ends s start b.0 end b.1.1)
    go false t e = rw (same_ok e) (ends_here exponent-size s start end (omega arith))

-- ---- the number

passed_ends : {s : Bytes} {start at next end : ℕ} → Passed s start at next → Ends exponent-size s start next end → Ends exponent-size s start at end
passed_ends p r =
    record {
      forward = omega (arith, p.forward, r.forward);
      short = λ h. r.short (p.short h);
      small = rw (p.skips _ r.forward) r.small;
    }

number-ends : (s : Bytes) (start end : ℕ) → number s start ≡ ok end → Ends exponent-size s start start end
unfolding number
number-ends s start end e =
    let f = bound (int s start (minus s start)) (λ fraction. frac s start fraction >>= exp s start) e in
    let g = bound (frac s start f.0) (exp s start) f.1.1 in
    passed_ends (minus-passes s start)
    (passed_ends (int-passes s start (minus s start) f.0 f.1.0)
    (passed_ends (frac-passes s start f.0 g.0 g.1.0) (exp-ends s start g.0 end g.1.1)))

-- the text that the reader gives a number
pub number-within_limits : (s : Bytes) (start end : ℕ) → number s start ≡ ok end → within_limits (take (end - start) (drop start s)) ≡ true
unfolding within_limits
number-within_limits s start end e =
    let t = part s start end in
    let r = number-ends s start end e in
    let short : end ≤ start + max_number = r.short (omega arith) in
    let shorter : length t ≤ max_number = omega (arith, length-take (end - start) (drop start s), min-le_left (end - start) (length (drop start s))) in
    rw (le-leb (length t) max_number shorter, le-leb (exponent-size t) max_exponent r.small)

-- a text that is a number and nothing more
pub whole_within_limits : (t : Bytes) → number t 0 ≡ ok (length t) → within_limits t ≡ true
whole_within_limits t e =
    let n : length t - 0 ≡ length t = omega arith in
    let same : take (length t - 0) (drop 0 t) ≡ t = rw n (take-length t) in
    rw same at (number-within_limits t 0 (length t) e)

-- So of two numbers `same_number` says whether they are worth the same.
pub same_number-worth : (a b : Bytes) → number a 0 ≡ ok (length a) → number b 0 ≡ ok (length b) → same_number a b ≡ same_worth (worth a) (worth b)
same_number-worth a b e f = both-within_limits a b (whole_within_limits a e) (whole_within_limits b f)
