-- What the readers of a number have read, production by production.
use Rattle.std.specs.Prelude.{if◌then◌else◌}
use mathlib.Core.Path.{◌≡◌, refl, ap, sym, subst, ◌∙◌}
use mathlib.Core.Bool.{Bool, true, false, ◌||◌, true≢false}
use mathlib.Core.List.{[], ◌∷◌, ◌++◌, append-nil, append_assoc}
use Prim.Native.Nat.{ℕ, zero, suc, ◌+◌, ◌-◌, ◌*◌, ◌<◌}
use native.Mathlib.Omega.{arith}
use native.Mathlib.Numerals.{add-one}
use native.Mathlib.Decide.{dec_lt}
use lib.Dec.{eqb, leb, ltb}
use lib.ListN.{length, drop, length-append}
use lib.Seq.{drop-cons, drop-length}
use lib.IntN.{ℤ, pos}
use borrow.Author.Tests.{eqb-true, eqb-false}
use Rattle.spec.specs.Outcome.{ok, refused, ◌>>=◌}
use Rattle.spec.specs.Bytes.{Bytes, byte, byte_in, within}
use Rattle.spec.specs.Numbers.{is_digit, is_e, counted, digits, some_digits, int, frac, sign, exponent_digits, signed_digits, exp, minus, number}
use Rattle.spec.specs.Limits.{max_exponent}
use Rattle.spec.specs.Pointer.{all_digits}
use Rattle.spec.proofs.OutcomeLaws.{refused≢ok, both_ok, either_ok}
use Rattle.spec.proofs.Tracking.{past_end}
use Rattle.claims.proofs.Valued as Statement
use Rattle.claims.specs.Numbers.{Exact}
use Rattle.claims.proofs.Valued.{Digits, Minus, Int, nonzero, Frac, point, Exp, plain, plus, Valued, valued}
use Rattle.claims.proofs.Normal.{digit_bounds, digits_cons, digits_all, e-is}

-- a piece of a text from one place to another, of which something holds
pub record Spans (P : Bytes → Type 0) (s : Bytes) (at next : ℕ) : Type 0 where
  pub text : Bytes
  pub is : drop at s ≡ text ++ drop next s
  pub place : next ≡ at + length text
  pub holds : P text

-- a byte that is not 0 stands before the end
pub byte_there : (s : Bytes) (at : ℕ) → (byte s at ≡ 0 → ⊥) → at < length s
byte_there s at n = go (dec_lt at (length s))
  where
    go : Dec (at < length s) → at < length s
    go (yes h) = h
    go (no h) = absurd (n (past_end s (omega arith)))

pub drop-byte : (s : Bytes) (at : ℕ) → (byte s at ≡ 0 → ⊥) → drop at s ≡ byte s at ∷ drop (at + 1) s
unfolding byte
drop-byte s at n = drop-cons s at 0 (byte_there s at n) ∙ rw (add-one at)

pub counted_next : (start at next : ℕ) → counted start at ≡ ok next → next ≡ at + 1
unfolding counted
counted_next start at next h = either_ok (ltb at (start + 128)) h (λ i. cc) (λ i. absurd (refused≢ok i))

digit_there : (s : Bytes) (at : ℕ) → is_digit (byte s at) ≡ true → drop at s ≡ byte s at ∷ drop (at + 1) s
digit_there s at h = let b = digit_bounds (byte s at) h in drop-byte s at (λ z. omega arith)

is_there : (s : Bytes) (at c : ℕ) → (c ≡ 0 → ⊥) → eqb (byte s at) c ≡ true → drop at s ≡ c ∷ drop (at + 1) s
is_there s at c n h = let e = eqb-true (byte s at) c h in drop-byte s at (λ z. n (sym e ∙ z)) ∙ ap (λ b. b ∷ drop (at + 1) s) e

-- one more byte in front
one_more : {P Q : Bytes → Type 0} {s : Bytes} {at next : ℕ} (c : ℕ) → drop at s ≡ c ∷ drop (at + 1) s → ((t : Bytes) → P t → Q (c ∷ t)) →
    Spans P s (at + 1) next → Spans Q s at next
one_more {s = s} {at} {next} c h f p =
    let there = p.place in
    record { text = c ∷ p.text; is = h ∙ ap (◌∷◌ c) p.is; place = omega arith; holds = f p.text p.holds }

-- nothing
nothing : {P : Bytes → Type 0} (s : Bytes) (at : ℕ) → P [] → Spans P s at at
nothing s at p = record { text = []; is = refl; place = omega arith; holds = p }

abbrev Passing : Bytes → Type 0
Passing t = all_digits t ≡ true

no_digits : (s : Bytes) (at : ℕ) → Spans Passing s at at
unfolding all_digits
no_digits s at = nothing s at refl

digits_spans : (fuel : ℕ) (s : Bytes) (start at next : ℕ) → digits fuel s start at ≡ ok next → Spans Passing s at next
unfolding digits
digits_spans zero s start at next h = let same : at ≡ next = cc in rw (← same) (no_digits s at)
digits_spans (suc fuel) s start at next h = go (is_digit (byte s at)) refl h (digits_spans fuel s start)
  where
    go : (b : Bool) → is_digit (byte s at) ≡ b → (if b then counted start at >>= digits fuel s start else ok at) ≡ ok next →
        ((at next : ℕ) → digits fuel s start at ≡ ok next → Spans Passing s at next) → Spans Passing s at next
    go true q h ih =
        let (place, e, i) = both_ok (counted start at) (digits fuel s start) next h in
        one_more (byte s at) (digit_there s at q) (λ t. digits_cons (byte s at) t q) (ih (at + 1) next (rw (← counted_next start at place e) i))
    go false q h ih = let same : at ≡ next = cc in rw (← same) (no_digits s at)

exponent_spans : (fuel : ℕ) (s : Bytes) (start size at next : ℕ) → exponent_digits fuel s start size at ≡ ok next → Spans Passing s at next
unfolding exponent_digits
exponent_spans zero s start size at next h = let same : at ≡ next = cc in rw (← same) (no_digits s at)
exponent_spans (suc fuel) s start size at next h = go (is_digit (byte s at)) refl h (exponent_spans fuel s start)
  where
    more : ℕ
    more = size * 10 + (byte s at - 48)

    go : (b : Bool) → is_digit (byte s at) ≡ b →
        (if b then (if leb more max_exponent then counted start at >>= exponent_digits fuel s start more else refused 7 at) else ok at) ≡ ok next →
        ((size at next : ℕ) → exponent_digits fuel s start size at ≡ ok next → Spans Passing s at next) → Spans Passing s at next
    go true q h ih =
        either_ok (leb more max_exponent) h
        (λ i.
        let (place, e, j) = both_ok (counted start at) (exponent_digits fuel s start more) next i in
        one_more (byte s at) (digit_there s at q) (λ t. digits_cons (byte s at) t q) (ih more (at + 1) next (rw (← counted_next start at place e) j)))
        (λ i. absurd (refused≢ok i))
    go false q h ih = let same : at ≡ next = cc in rw (← same) (no_digits s at)

-- 1*DIGIT: the first digit, and those after it
record OneOrMore (s : Bytes) (at next : ℕ) : Type 0 where
  first : is_digit (byte s at) ≡ true
  others : Spans Passing s (at + 1) next

first_digit_lem : (s : Bytes) (at b : ℕ) → byte_in s at 48 57 ≡ ok b → is_digit (byte s at) ≡ true
unfolding byte_in is_digit
first_digit_lem s at b h = go (within 48 57 (byte s at)) refl h
  where
    go : (c : Bool) → within 48 57 (byte s at) ≡ c → (if c then ok (byte s at) else refused 3 at) ≡ ok b → within 48 57 (byte s at) ≡ true
    go true q h = q
    go false q h = absurd (refused≢ok h)

-- a text in which a byte stands has a length to count down
some_fuel : (s : Bytes) (at : ℕ) → is_digit (byte s at) ≡ true → (fuel : ℕ) × (length s ≡ suc fuel)
some_fuel s at h = let b = digit_bounds (byte s at) h in go (length s) (byte_there s at (λ z. omega arith))
  where
    go : (n : ℕ) → at < n → (fuel : ℕ) × (n ≡ suc fuel)
    go zero l = absurd (omega arith)
    go (suc n) l = (n, refl)

after-digit : (fuel : ℕ) (s : Bytes) (start at next : ℕ) → is_digit (byte s at) ≡ true → digits (suc fuel) s start at ≡ ok next → Spans Passing s (at + 1) next
unfolding digits
after-digit fuel s start at next q h =
    let (place, e, i) = both_ok (counted start at) (digits fuel s start) next (rw q at h) in
    digits_spans fuel s start (at + 1) next (rw (← counted_next start at place e) i)

after-exponent-digit : (fuel : ℕ) (s : Bytes) (start size at next : ℕ) → is_digit (byte s at) ≡ true →
    exponent_digits (suc fuel) s start size at ≡ ok next → Spans Passing s (at + 1) next
unfolding exponent_digits
after-exponent-digit fuel s start size at next q h =
    either_ok (leb (size * 10 + (byte s at - 48)) max_exponent) (rw q at h)
    (λ i.
    let (place, e, j) = both_ok (counted start at) _ next i in
    exponent_spans fuel s start (size * 10 + (byte s at - 48)) (at + 1) next (rw (← counted_next start at place e) j))
    (λ i. absurd (refused≢ok i))

some_digits_lem : (s : Bytes) (start at next : ℕ) → some_digits s start at ≡ ok next → OneOrMore s at next
unfolding some_digits
some_digits_lem s start at next h =
    let (b, e, i) = both_ok (byte_in s at 48 57) _ next h in
    let d = first_digit_lem s at b e in
    let f = some_fuel s at d in
    record { first = d; others = after-digit f.0 s start at next d (rw f.1 at i) }

one_or_more : {s : Bytes} {at next : ℕ} → OneOrMore s at next → Spans Digits s at next
one_or_more {s} {at} o =
    one_more (byte s at) (digit_there s at o.first)
    (λ t h. record { some = omega arith; all = digits_all (byte s at ∷ t) (digits_cons (byte s at) t o.first h) }) o.others

exponent_some : (s : Bytes) (start at next : ℕ) → is_digit (byte s at) ≡ true → exponent_digits (length s) s start 0 at ≡ ok next → Spans Digits s at next
exponent_some s start at next d h =
    let f = some_fuel s at d in
    one_or_more (record { first = d; others = after-exponent-digit f.0 s start 0 at next d (rw f.1 at h) })

-- Production by production

int-spans : (s : Bytes) (start at next : ℕ) → int s start at ≡ ok next → Spans Int s at next
unfolding int
int-spans s start at next h = go (eqb (byte s at) 48) refl h
  where
    go : (b : Bool) → eqb (byte s at) 48 ≡ b → (if b then counted start at else some_digits s start at) ≡ ok next → Spans Int s at next
    go true q h =
        rw (counted_next start at next h) (record { text = 48 ∷ []; is = is_there s at 48 (λ z. omega arith) q; place = refl; holds = Statement.zero })
    go false q h =
        let o = some_digits_lem s start at next h in
        one_more (byte s at) (digit_there s at o.first)
        (λ t i. nonzero (byte s at) t (digit_bounds (byte s at) o.first) (eqb-false _ _ q) (digits_all t i)) o.others

abbrev IsFrac : Bytes → Type 0
IsFrac f = (fraction : Bytes) × Frac f fraction

frac-spans : (s : Bytes) (start at next : ℕ) → frac s start at ≡ ok next → Spans IsFrac s at next
unfolding frac
frac-spans s start at next h = go (eqb (byte s at) 46) refl h
  where
    go : (b : Bool) → eqb (byte s at) 46 ≡ b → (if b then counted start at >>= some_digits s start else ok at) ≡ ok next → Spans IsFrac s at next
    go true q h =
        let (place, e, i) = both_ok (counted start at) (some_digits s start) next h in
        let o = some_digits_lem s start (at + 1) next (rw (← counted_next start at place e) i) in
        one_more 46 (is_there s at 46 (λ z. omega arith) q) (λ t d. (t, point t d)) (one_or_more o)
    go false q h = let same : at ≡ next = cc in rw (← same) (nothing s at ([], Statement.none))

abbrev IsExp : Bytes → Type 0
IsExp x = (e : ℤ) × Exp x e

-- after the letter
abbrev Signed : Bytes → Type 0
Signed x = (e : ℕ) → is_e e ≡ true → IsExp (e ∷ x)

signed_spans : (s : Bytes) (start at next : ℕ) → signed_digits s start at ≡ ok next → Spans Signed s at next
unfolding signed_digits sign
signed_spans s start at next h =
    let (first, e, i) = both_ok (sign s start at) _ next h in
    let (b, j, k) = both_ok (byte_in s first 48 57) _ next i in
    go (eqb (byte s at) 43) (eqb (byte s at) 45) refl refl first e (exponent_some s start first next (first_digit_lem s first b j) k)
  where
    go : (p m : Bool) → eqb (byte s at) 43 ≡ p → eqb (byte s at) 45 ≡ m → (first : ℕ) → (if p || m then counted start at else ok at) ≡ ok first →
        Spans Digits s first next → Spans Signed s at next
    go true m q r first h o =
        one_more 43 (is_there s at 43 (λ z. omega arith) q) (λ t d e i. (_, plus e t (e-is e i) d)) (rw (counted_next start at first h) at o)
    go false true q r first h o =
        one_more 45 (is_there s at 45 (λ z. omega arith) r) (λ t d e i. (_, Statement.minus e t (e-is e i) d)) (rw (counted_next start at first h) at o)
    go false false q r first h o =
        let same : first ≡ at = cc in
        let p = rw same at o in
        record { text = p.text; is = p.is; place = p.place; holds = λ e i. (_, plain e p.text (e-is e i) p.holds) }

e-there : (s : Bytes) (at : ℕ) → is_e (byte s at) ≡ true → drop at s ≡ byte s at ∷ drop (at + 1) s
unfolding is_e
e-there s at h = drop-byte s at (λ z. true≢false (sym h ∙ rw z))

exp-spans : (s : Bytes) (start at next : ℕ) → exp s start at ≡ ok next → Spans IsExp s at next
unfolding exp
exp-spans s start at next h = go (is_e (byte s at)) refl h
  where
    go : (b : Bool) → is_e (byte s at) ≡ b → (if b then counted start at >>= signed_digits s start else ok at) ≡ ok next → Spans IsExp s at next
    go true q h =
        let (place, e, i) = both_ok (counted start at) (signed_digits s start) next h in
        let p = signed_spans s start (at + 1) next (rw (← counted_next start at place e) i) in
        one_more (byte s at) (e-there s at q) (λ t f. f (byte s at) q) p
    go false q h = let same : at ≡ next = cc in rw (← same) (nothing s at (pos 0, Statement.none))

abbrev IsMinus : Bytes → Type 0
IsMinus m = (negative : Bool) × Minus m negative

minus-spans : (s : Bytes) (at : ℕ) → Spans IsMinus s at (minus s at)
unfolding minus
minus-spans s at = go (eqb (byte s at) 45) refl
  where
    go : (b : Bool) → eqb (byte s at) 45 ≡ b → Spans IsMinus s at (if b then at + 1 else at)
    go true q = record { text = 45 ∷ []; is = is_there s at 45 (λ z. omega arith) q; place = refl; holds = (true, Statement.minus) }
    go false q = nothing s at (false, Statement.none)

abbrev IsNumber : Bytes → Type 0
IsNumber t = (x : Exact) × Valued t x

-- four pieces in a row
joined : {s : Bytes} {p q r u v : ℕ} → Spans IsMinus s p q → Spans Int s q r → Spans IsFrac s r u → Spans IsExp s u v → Spans IsNumber s p v
joined {s} {p} {q} {r} {u} {v} a b c d =
    let first = a.place in
    let second = b.place in
    let third = c.place in
    let fourth = d.place in
    record {
      text = a.text ++ (b.text ++ (c.text ++ d.text));
      is = a.is ∙ ap (λ w. a.text ++ w) (b.is ∙ ap (λ w. b.text ++ w) (c.is ∙ ap (λ w. c.text ++ w) d.is)) ∙ simp append_assoc;
      place = simp length-append (omega arith);
      holds = (_, valued _ _ _ _ _ _ _ a.holds.1 b.holds c.holds.1 d.holds.1);
    }

pub number-spans : (s : Bytes) (at next : ℕ) → number s at ≡ ok next → Spans IsNumber s at next
unfolding number
number-spans s at next h =
    let (fraction, e, i) = both_ok (int s at (minus s at)) _ next h in
    let (exponent, f, g) = both_ok (frac s at fraction) _ next i in
    joined (minus-spans s at) (int-spans s at (minus s at) fraction e) (frac-spans s at fraction exponent f) (exp-spans s at exponent next g)

pub number-valued : (t : Bytes) → number t 0 ≡ ok (length t) → (x : Exact) × Valued t x
number-valued t h =
    let p = number-spans t 0 (length t) h in
    let whole : t ≡ p.text = p.is ∙ ap (λ r. p.text ++ r) (drop-length t) ∙ append-nil p.text in
    subst IsNumber (sym whole) p.holds
