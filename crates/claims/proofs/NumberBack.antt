-- A text that is one number is read as that number wherever it stands, if what follows it continues no number.
use Rattle.std.specs.Prelude.{if◌then◌else◌}
use mathlib.Core.Path.{◌≡◌, refl, ap, sym, ◌∙◌}
use mathlib.Core.List.{[], ◌∷◌, ◌++◌}
use mathlib.Core.Bool.{Bool, true, false, ◌||◌, true≢false}
use Prim.Native.Nat.{ℕ, zero, suc, ◌+◌, ◌-◌, ◌*◌, ◌≤◌, ◌<◌}
use native.Mathlib.Nat.{add-zero}
use native.Mathlib.Omega.{arith}
use native.Mathlib.Decide.{dec_lt}
use lib.Dec.{eqb, leb, ltb}
use lib.ListN.{length, get_or-append, length-append, length-drop}
use borrow.Author.Tests.{ltb-true, ltb-false, lt-ltb, le-ltb, ne_eqb}
use Rattle.spec.specs.Outcome.{Outcome, ok, refused, ◌>>=◌}
use Rattle.spec.specs.Limits.{max_exponent}
use Rattle.spec.specs.Bytes.{Bytes, byte, byte_in, within}
use Rattle.spec.specs.Numbers.{is_digit, is_e, counted, digits, some_digits, int, frac, sign, exponent_digits, signed_digits, exp, minus, number}
use Rattle.spec.proofs.OutcomeLaws.{refused≢ok, both_ok}
use Rattle.spec.proofs.Tracking.{Ends, past_end}
use Rattle.claims.proofs.Valued as Statement
use Rattle.claims.specs.Numbers.{Exact}
use Rattle.claims.proofs.Valued.{Valued, valued, nonzero}
use Rattle.claims.proofs.Normal.{is_digit_lem}
use Rattle.claims.proofs.NumberRead.{counted_next, number-valued}
use Rattle.claims.proofs.Rest.{Rest, byte_at}

-- a text t that stands in s from the place `at` on, and what follows continues no number
pub record Stands (s t : Bytes) (at : ℕ) : Type 0 where
  pub same : (p : ℕ) → p < length t → byte s (at + p) ≡ byte t p
  pub ends : Ends (byte s (at + length t))
  pub fits : at + length t ≤ length s

ltb_shift : (a m n : ℕ) → ltb (a + m) (a + n) ≡ ltb m n
ltb_shift a m n = go (ltb m n) refl
  where
    go : (b : Bool) → ltb m n ≡ b → ltb (a + m) (a + n) ≡ b
    go true q = let l = ltb-true m n q in lt-ltb (a + m) (a + n) (omega arith)
    go false q = let l = ltb-false m n q in le-ltb (a + m) (a + n) (omega arith)

-- the second outcome is the first, moved by the place
record Moves (at n : ℕ) (o o' : Outcome ℕ) : Type 0 where
  moves : (q : ℕ) → o ≡ ok q → (o' ≡ ok (at + q)) × (q ≤ n)

module _ {at n : ℕ} where
  result : (p p' : ℕ) → p' ≡ at + p → p ≤ n → Moves at n (ok p) (ok p')
  result p p' e l = record { moves = λ q h. let same : p ≡ q = cc in (ap ok (e ∙ ap (λ x. at + x) same), omega arith) }

  none : {number place : ℕ} {o' : Outcome ℕ} → Moves at n (refused number place) o'
  none = record { moves = λ q h. absurd (refused≢ok h) }

  and_then : {o o' : Outcome ℕ} (g g' : ℕ → Outcome ℕ) → Moves at n o o'
      → ((q : ℕ) → q ≤ n → o ≡ ok q → Moves at n (g q) (g' (at + q))) → Moves at n (o >>= g) (o' >>= g')
  unfolding ◌>>=◌
  and_then {o} g g' m rest =
      record {
        moves = λ q h.
            let (p, e, i) = both_ok o g q h in
            let r = m.moves p e in
            rw r.0 ((rest p r.1 e).moves q i);
      }

  choose : {c c' : Bool} {a a' b b' : Outcome ℕ} → c' ≡ c → (c ≡ true → Moves at n a a') → (c ≡ false → Moves at n b b') →
      Moves at n (if c then a else b) (if c' then a' else b')
  choose {c} e f g = rw e (go c f g)
    where
      go : (c : Bool) {a a' b b' : Outcome ℕ} → (c ≡ true → Moves at n a a') → (c ≡ false → Moves at n b b') →
          Moves at n (if c then a else b) (if c then a' else b')
      go true f g = f refl
      go false f g = g refl

digits-stop : (f : ℕ) (s : Bytes) (start at : ℕ) → is_digit (byte s at) ≡ false → digits f s start at ≡ ok at
unfolding digits
digits-stop zero s start at h = refl
digits-stop (suc f) s start at h = rw h

exponent-stop : (f : ℕ) (s : Bytes) (start size at : ℕ) → is_digit (byte s at) ≡ false → exponent_digits f s start size at ≡ ok at
unfolding exponent_digits
exponent-stop zero s start size at h = refl
exponent-stop (suc f) s start size at h = rw h

no_digit_zero : (b : ℕ) → is_digit b ≡ false → eqb b 48 ≡ false
unfolding is_digit within
no_digit_zero b h = ne_eqb b 48 (λ e. true≢false (rw e at h))

no_minus : (b : ℕ) → (eqb b 43 || eqb b 45) ≡ false → eqb b 45 ≡ false
no_minus b h = go (eqb b 43) (eqb b 45) h
  where
    go : (p m : Bool) → (p || m) ≡ false → m ≡ false
    go true m h = absurd (true≢false h)
    go false m h = h

module _ {s t : Bytes} {at : ℕ} (stands : Stands s t at) where
  -- a test goes the same way on both sides; at the end it fails on both
  agree : (test : ℕ → Bool) (p : ℕ) → test 0 ≡ false → test (byte s (at + length t)) ≡ false → p ≤ length t → test (byte s (at + p)) ≡ test (byte t p)
  agree test p z e l = go (dec_lt p (length t))
    where
      go : Dec (p < length t) → test (byte s (at + p)) ≡ test (byte t p)
      go (yes h) = ap test (stands.same p h)
      go (no h) =
          let end : p ≡ length t = omega arith in
          rw end (e ∙ sym (ap test (past_end t {at = length t} (omega arith)) ∙ z))

  -- a byte that passes a test stands before the end
  before_end : (test : ℕ → Bool) (p : ℕ) → test 0 ≡ false → test (byte t p) ≡ true → p < length t
  before_end test p z h = go (dec_lt p (length t))
    where
      go : Dec (p < length t) → p < length t
      go (yes l) = l
      go (no l) = absurd (true≢false (sym h ∙ ap test (past_end t {at = p} (omega arith)) ∙ z))

  counted_moves : (p : ℕ) → p < length t → Moves at (length t) (counted 0 p) (counted at (at + p))
  unfolding counted
  counted_moves p l = choose (ltb_shift at p 128) (λ h. result (p + 1) (at + p + 1) (omega arith) (omega arith)) (λ h. none)

  digit_agrees : (p : ℕ) → p ≤ length t → is_digit (byte s (at + p)) ≡ is_digit (byte t p)
  unfolding is_digit within
  digit_agrees p l = agree is_digit p refl stands.ends.no_digit l

  digit-before : (p : ℕ) → is_digit (byte t p) ≡ true → p < length t
  unfolding is_digit within
  digit-before p h = before_end is_digit p refl h

  at_the_end : (p : ℕ) → length t ≤ p → is_digit (byte t p) ≡ false
  unfolding is_digit within
  at_the_end p l = ap is_digit (past_end t l)

  -- at the end nothing more is read on either side
  digits_end : (f f' p : ℕ) → p ≤ length t → length t ≤ p → Moves at (length t) (digits f t 0 p) (digits f' s at (at + p))
  digits_end f f' p l m =
      rw (digits-stop f t 0 p (at_the_end p m), digits-stop f' s at (at + p) (digit_agrees p l ∙ at_the_end p m)) (result p (at + p) refl l)

  digits_moves : (f f' p : ℕ) → p ≤ length t → length t ≤ f + p → length t ≤ f' + p → Moves at (length t) (digits f t 0 p) (digits f' s at (at + p))
  unfolding digits
  digits_moves zero f' p l m m' = digits_end zero f' p l (omega arith)
  digits_moves (suc f) zero p l m m' = digits_end (suc f) zero p l (omega arith)
  digits_moves (suc f) (suc f') p l m m' =
      choose (digit_agrees p l)
      (λ h. and_then _ _ (counted_moves p (digit-before p h)) λ q l' e.
      let next = counted_next 0 p q e in digits_moves f f' q l' (omega arith) (omega arith))
      (λ h. result p (at + p) refl l)

  exponent_end : (f f' size p : ℕ) → p ≤ length t → length t ≤ p → Moves at (length t) (exponent_digits f t 0 size p) (exponent_digits f' s at size (at + p))
  exponent_end f f' size p l m =
      rw (exponent-stop f t 0 size p (at_the_end p m), exponent-stop f' s at size (at + p) (digit_agrees p l ∙ at_the_end p m)) (result p (at + p) refl l)

  exponent_moves : (f f' size p : ℕ) → p ≤ length t → length t ≤ f + p → length t ≤ f' + p →
      Moves at (length t) (exponent_digits f t 0 size p) (exponent_digits f' s at size (at + p))
  unfolding exponent_digits
  exponent_moves zero f' size p l m m' = exponent_end zero f' size p l (omega arith)
  exponent_moves (suc f) zero size p l m m' = exponent_end (suc f) zero size p l (omega arith)
  exponent_moves (suc f) (suc f') size p l m m' =
      choose (digit_agrees p l)
      (λ h.
      let byte-same = stands.same p (digit-before p h) in
      choose (ap (λ b. leb (size * 10 + (b - 48)) max_exponent) byte-same)
      (λ i. and_then _ _ (counted_moves p (digit-before p h)) λ q l' e.
      let next = counted_next 0 p q e in
      rw byte-same (exponent_moves f f' (size * 10 + (byte t p - 48)) q l' (omega arith) (omega arith)))
      (λ i. none))
      (λ h. result p (at + p) refl l)

  -- a first digit, which must be there
  digit_moves : (p : ℕ) {o o' : Outcome ℕ} → p ≤ length t → Moves at (length t) o o' →
      Moves at (length t) (byte_in t p 48 57 >>= λ _. o) (byte_in s (at + p) 48 57 >>= λ _. o')
  unfolding byte_in ◌>>=◌ is_digit
  digit_moves p {o} {o'} l m = rw (digit_agrees p l) (go (within 48 57 (byte t p)))
    where
      go : (c : Bool) →
          Moves at (length t) ((if c then ok (byte t p) else refused 3 p) >>= λ _. o) ((if c then ok (byte s (at + p)) else refused 3 (at + p)) >>= λ _. o')
      go true = m
      go false = none

  some_moves : (p : ℕ) → p ≤ length t → Moves at (length t) (some_digits t 0 p) (some_digits s at (at + p))
  unfolding some_digits
  some_moves p l =
      let f = stands.fits in
      digit_moves p l (digits_moves (length t) (length s) p l (omega arith) (omega arith))

  int-moves : (p : ℕ) → p ≤ length t → Moves at (length t) (int t 0 p) (int s at (at + p))
  unfolding int
  int-moves p l =
      choose (agree (λ b. eqb b 48) p refl (no_digit_zero _ stands.ends.no_digit) l)
      (λ h. counted_moves p (before_end (λ b. eqb b 48) p refl h)) (λ h. some_moves p l)

  frac-moves : (p : ℕ) → p ≤ length t → Moves at (length t) (frac t 0 p) (frac s at (at + p))
  unfolding frac
  frac-moves p l =
      choose (agree (λ b. eqb b 46) p refl stands.ends.no_point l)
      (λ h. and_then _ _ (counted_moves p (before_end (λ b. eqb b 46) p refl h)) λ q l' e. some_moves q l')
      (λ h. result p (at + p) refl l)

  sign-moves : (p : ℕ) → p ≤ length t → Moves at (length t) (sign t 0 p) (sign s at (at + p))
  unfolding sign
  sign-moves p l =
      choose (agree (λ b. eqb b 43 || eqb b 45) p refl stands.ends.no_sign l)
      (λ h. counted_moves p (before_end (λ b. eqb b 43 || eqb b 45) p refl h))
      (λ h. result p (at + p) refl l)

  signed_moves : (p : ℕ) → p ≤ length t → Moves at (length t) (signed_digits t 0 p) (signed_digits s at (at + p))
  unfolding signed_digits
  signed_moves p l =
      let f = stands.fits in
      and_then _ _ (sign-moves p l) λ q l' e. digit_moves q l' (exponent_moves (length t) (length s) 0 q l' (omega arith) (omega arith))

  exp-moves : (p : ℕ) → p ≤ length t → Moves at (length t) (exp t 0 p) (exp s at (at + p))
  unfolding exp is_e
  exp-moves p l =
      choose (agree is_e p refl stands.ends.no_exponent l)
      (λ h. and_then _ _ (counted_moves p (before_end is_e p refl h)) λ q l' e. signed_moves q l')
      (λ h. result p (at + p) refl l)

  minus-moves : (p : ℕ) → p ≤ length t → (minus s (at + p) ≡ at + minus t p) × (minus t p ≤ length t)
  unfolding minus
  minus-moves p l = rw (agree (λ b. eqb b 45) p refl (no_minus (byte s (at + length t)) stands.ends.no_sign) l) (go (eqb (byte t p) 45) refl)
    where
      go : (c : Bool) → eqb (byte t p) 45 ≡ c → ((if c then at + p + 1 else at + p) ≡ at + (if c then p + 1 else p)) × ((if c then p + 1 else p) ≤ length t)
      go true q = let before = before_end (λ b. eqb b 45) p refl q in (omega arith, omega arith)
      go false q = (refl, l)

  number-moves : Moves at (length t) (number t 0) (number s at)
  unfolding number
  number-moves =
      let m = minus-moves 0 (omega arith) in
      let sign-moved : minus s at ≡ at + minus t 0 = ap (minus s) (sym (add-zero at)) ∙ m.0 in
      rw sign-moved (and_then _ _ (int-moves (minus t 0) m.1) λ q l e. and_then _ _ (frac-moves q l) λ q' l' e'. exp-moves q' l')

-- a number begins with a digit or a minus
written-first : {t : Bytes} {x : Exact} → Valued t x → (is_digit (byte t 0) || eqb (byte t 0) 45) ≡ true
unfolding byte is_digit within
written-first (valued m i f x negative fraction exponent Statement.minus j k e) = refl
written-first (valued m i f x negative fraction exponent Statement.none Statement.zero k e) = refl
written-first (valued m i f x negative fraction exponent Statement.none (nonzero d ds h n a) k e) = rw (is_digit_lem h)

pub written_some : {t : Bytes} {x : Exact} → Valued t x → 1 ≤ length t
unfolding byte is_digit within
written_some {t} w = go t (written-first w)
  where
    go : (t : Bytes) → (is_digit (byte t 0) || eqb (byte t 0) 45) ≡ true → 1 ≤ length t
    go [] h = absurd (true≢false (sym h))
    go (c ∷ t) h = omega arith

pub number-first : (t : Bytes) → number t 0 ≡ ok (length t) → (is_digit (byte t 0) || eqb (byte t 0) 45) ≡ true
number-first t h = written-first (number-valued t h).1

pub number-some : (t : Bytes) → number t 0 ≡ ok (length t) → 1 ≤ length t
number-some t h = written_some (number-valued t h).1

stands : {s : Bytes} {at : ℕ} (t r : Bytes) → 1 ≤ length t → Ends (byte s (at + length t)) → Rest s at (t ++ r) → Stands s t at
unfolding byte
stands {s} {at} t r l e h =
    record {
      same = λ p m. byte_at h p ∙ get_or-append t r 0 p m;
      ends = e;
      fits = let lengths = ap length h.is in omega (arith, length-append t r, length-drop at s);
    }

pub number-back : {s : Bytes} {at : ℕ} (t r : Bytes) → number t 0 ≡ ok (length t) → Ends (byte s (at + length t)) → Rest s at (t ++ r) →
    number s at ≡ ok (at + length t)
number-back t r h e rest = ((number-moves (stands t r (number-some t h) e rest)).moves (length t) h).0
