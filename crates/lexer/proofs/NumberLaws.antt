-- Where numbers end.
use Rattle.std.specs.Prelude.{if◌then◌else◌}
use Prim.Native.Nat.{ℕ, zero, suc, ◌+◌, ◌-◌, ◌*◌, ◌≤◌, ◌<◌}
use Prim.Native.Char.{code}
use mathlib.Core.Path.{◌≡◌, refl}
use mathlib.Core.Bool.{Bool, true, false, ◌||◌}
use native.Mathlib.Omega.{arith}
use lib.ListN.{length}
use lib.Dec.{eqb, ltb, leb}
use Rattle.spec.specs.Outcome.{Outcome, ok, refused, ◌>>=◌}
use Rattle.spec.specs.Refusal.{not_json}
use Rattle.spec.specs.Limits.{max_number, max_exponent}
use Rattle.spec.specs.Bytes.{Bytes, byte, within, byte_in}
use Rattle.spec.specs.Numbers.{is_digit, is_e, counted, digits, some_digits, int, frac, sign, exponent_digits, signed_digits, exp, minus, number}
use Rattle.lexer.proofs.Always.{Always, refuses, gives, result, either, next, weaken}
use Rattle.lexer.proofs.ByteLaws.{byte_past, inside}
use Rattle.lexer.proofs.AnswerLaws.{byte-within}
use Rattle.lexer.proofs.NumberLoop.{not_digit, counted_next}

-- past the end no number is read
pub number-past_end : (s : Bytes) (at : ℕ) → length s ≤ at → number s at ≡ refused not_json at
unfolding number minus int some_digits byte_in within ◌>>=◌
number-past_end s at h = rw (byte_past s at h, byte_past s at h)

-- what is read ends at a place or after it, and within the text
abbrev pub From : Bytes → ℕ → ℕ → Type 0
From s at n = (at ≤ n) × (n ≤ length s)

not-e : is_e 0 ≡ false
unfolding is_e
not-e = refl

module _ (s : Bytes) (start : ℕ) where
  later : {low at : ℕ} {o : Outcome ℕ} → low ≤ at → Always (From s at) o → Always (From s low) o
  later l a = weaken (λ v h. omega arith) a

  counted-from : (at : ℕ) → at < length s → Always (From s (at + 1)) (counted start at)
  unfolding counted
  counted-from at h = either (ltb at (start + max_number)) (λ _. gives (at + 1) (omega arith)) (λ _. refuses)

  -- a byte that passes a test which 0 does not pass, and what follows
  over : (P : ℕ → Bool) → P 0 ≡ false → (at : ℕ) → P (byte s at) ≡ true → (f : ℕ → Outcome ℕ) →
      ((n : ℕ) → n ≤ length s → Always (From s n) (f n)) → Always (From s (at + 1)) (counted start at >>= f)
  over P z at e f h =
      next (counted start at) λ n c.
      let k = inside P z s at e in
      let l = counted_next start at n c in
      later (omega arith) (h n (omega arith))

  digits_from : (fuel at : ℕ) → at ≤ length s → Always (From s at) (digits fuel s start at)
  unfolding digits
  digits_from zero at h = gives at (omega arith)
  digits_from (suc fuel) at h =
      let more = digits_from fuel in
      either (is_digit (byte s at)) (λ e. later (omega arith) (over is_digit not_digit at e (digits fuel s start) more)) (λ _. gives at (omega arith))

  some_digits-from : (at : ℕ) → at ≤ length s → Always (From s at) (some_digits s start at)
  unfolding some_digits
  some_digits-from at h = next _ λ b e. digits_from (length s) at h

  exponent_digits-from : (fuel size at : ℕ) → at ≤ length s → Always (From s at) (exponent_digits fuel s start size at)
  unfolding exponent_digits
  exponent_digits-from zero size at h = gives at (omega arith)
  exponent_digits-from (suc fuel) size at h =
      let m = size * 10 + (byte s at - code "0") in
      let more = exponent_digits-from fuel m in
      either (is_digit (byte s at)) (λ e.
      either (leb m max_exponent) (λ _. later (omega arith) (over is_digit not_digit at e (exponent_digits fuel s start m) more)) (λ _. refuses)) (λ _.
      gives at (omega arith))

  frac-from : (at : ℕ) → at ≤ length s → Always (From s at) (frac s start at)
  unfolding frac
  frac-from at h =
      either (eqb (byte s at) (code ".")) (λ e.
      later (omega arith) (over (λ b. eqb b (code ".")) refl at e (some_digits s start) some_digits-from)) (λ _.
      gives at (omega arith))

  sign-from : (at : ℕ) → at ≤ length s → Always (From s at) (sign s start at)
  unfolding sign
  sign-from at h =
      either (eqb (byte s at) (code "+") || eqb (byte s at) (code "-")) (λ e.
      let k = inside (λ b. eqb b (code "+") || eqb b (code "-")) refl s at e in
      later (omega arith) (counted-from at k)) (λ _. gives at (omega arith))

  signed_digits-from : (at : ℕ) → at ≤ length s → Always (From s at) (signed_digits s start at)
  unfolding signed_digits
  signed_digits-from at h =
      next (sign s start at) λ n e.
      let l : From s at n = result (rw e at (sign-from at h)) in
      next _ λ b f. later (omega arith) (exponent_digits-from (length s) 0 n (omega arith))

  exp-from : (at : ℕ) → at ≤ length s → Always (From s at) (exp s start at)
  unfolding exp
  exp-from at h =
      either (is_e (byte s at)) (λ e. later (omega arith) (over is_e not-e at e (signed_digits s start) signed_digits-from)) (λ _.
      gives at (omega arith))

  -- an integer has at least one digit
  digits_past : (fuel at : ℕ) → 1 ≤ fuel → is_digit (byte s at) ≡ true → Always (From s (at + 1)) (digits fuel s start at)
  unfolding digits
  digits_past zero at h e = absurd (omega arith)
  digits_past (suc fuel) at h e = rw e (over is_digit not_digit at e (digits fuel s start) (digits_from fuel))

  some_digits_past : (at : ℕ) → Always (From s (at + 1)) (some_digits s start at)
  unfolding some_digits is_digit
  some_digits_past at =
      next _ λ b e.
      let d = byte-within s at (code "0") (code "9") b e in
      let k = inside is_digit not_digit s at d in
      digits_past (length s) at (omega arith) d

  int-past : (at : ℕ) → Always (From s (at + 1)) (int s start at)
  unfolding int
  int-past at =
      either (eqb (byte s at) (code "0")) (λ e. counted-from at (inside (λ b. eqb b (code "0")) refl s at e)) (λ _. some_digits_past at)

minus-from : (s : Bytes) (at : ℕ) → at ≤ minus s at
unfolding minus
minus-from s at = go (eqb (byte s at) (code "-"))
  where
    go : (t : Bool) → at ≤ (if t then at + 1 else at)
    go true = omega arith
    go false = omega arith

-- a number ends past its place, and within the text
pub number_past : (s : Bytes) (start : ℕ) → Always (λ n. (start < n) × (n ≤ length s)) (number s start)
unfolding number
number_past s start =
    let m = minus-from s start in
    next (int s start (minus s start)) λ n e.
    let k : From s (minus s start + 1) n = result (rw e at (int-past s start (minus s start))) in
    next (frac s start n) λ f g.
    let l : From s n f = result (rw g at (frac-from s start n (omega arith))) in
    weaken (λ v h. omega arith) (exp-from s start f (omega arith))

pub number-ok_past : (s : Bytes) (start n : ℕ) → number s start ≡ ok n → (start < n) × (n ≤ length s)
number-ok_past s start n e = result (rw e at (number_past s start))
