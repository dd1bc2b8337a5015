-- The reader of numbers is sound.
use Rattle.std.specs.Prelude.{if◌then◌else◌}
use Prim.Native.Nat.{ℕ, zero, suc, ◌+◌, ◌-◌, ◌*◌, ◌<◌, ◌≤◌}
use mathlib.Core.Path.{◌≡◌, refl}
use mathlib.Core.Bool.{Bool, true, false, ◌||◌}
use mathlib.Core.List.{[], ◌∷◌, ◌++◌}
use native.Mathlib.Omega.{arith}
use lib.ListN.{length}
use lib.Dec.{eqb, leb, ltb}
use borrow.Author.Tests.{eqb-true, eqb-false}
use Rattle.spec.specs.Outcome.{Outcome, ok, refused, ◌>>=◌}
use Rattle.spec.specs.Refusal.{number_over_limit}
use Rattle.spec.specs.Limits.{max_number, max_exponent}
use Rattle.spec.specs.Bytes.{Bytes, byte}
use Rattle.spec.specs.Numbers as Numbers
use Rattle.spec.specs.Numbers.{is_digit, is_e, counted, digits, some_digits, exponent_digits, signed_digits}
use Rattle.grammar.specs.Grammar.{optional, DIGIT, *DIGIT, 1*DIGIT, minus, int, frac, e, sign, exp, number}
use Rattle.grammar.proofs.Places.{in_text}
use Rattle.grammar.proofs.Tests.{either, within_true, in_range}
use Rattle.grammar.proofs.Sound.{Sound, exceeds, Some, some, gives, weaken, choose, and_then, past, check_then}

-- results that are a place
abbrev pub there : ℕ → ℕ
there p = p

abbrev pub Derives : (Bytes → Type 0) → Bytes → ℕ → Type 0
Derives P w p = P w

-- a byte of the number, and a reader after it
counted_then : {X : Type 0} {s : Bytes} {place : X → ℕ} {at : ℕ} (P : Bytes → X → Type 0) (g : ℕ → Outcome X) (b start : ℕ) → 0 < b → byte s at ≡ b →
    Sound s place (at + 1) (λ w x. P (b ∷ w) x) (g (at + 1)) → Sound s place at P (counted start at >>= g)
unfolding counted ◌>>=◌
counted_then {s = s} {place = place} {at = at} P g b start l h rest = go (ltb at (start + max_number))
  where
    go : (c : Bool) → Sound s place at P ((if c then ok (at + 1) else refused number_over_limit at) >>= g)
    go true = past P b (at + 1) l h refl rest
    go false = exceeds number_over_limit (omega arith)

counted_sound : {s : Bytes} {at : ℕ} (P : Bytes → Type 0) (b start : ℕ) → 0 < b → byte s at ≡ b → P (b ∷ []) →
    Sound s there at (Derives P) (counted start at)
unfolding counted
counted_sound {s} {at} P b start l h d =
    choose (ltb at (start + max_number)) (λ _. past (Derives P) b (at + 1) l h refl (gives (at + 1) refl d))
    (λ _. exceeds number_over_limit (omega arith))

pub digit : (b : ℕ) → is_digit b ≡ true → DIGIT b
unfolding is_digit
digit b h = within_true 0x30 0x39 b h

digits_sound : (fuel : ℕ) (s : Bytes) (start at : ℕ) → Sound s there at (Derives *DIGIT) (digits fuel s start at)
unfolding digits
digits_sound zero s start at = gives at refl *DIGIT.none
digits_sound (suc fuel) s start at =
    choose (is_digit (byte s at))
    (λ h. let d = digit (byte s at) h in
    counted_then _ _ (byte s at) start (omega arith) refl (weaken (λ w x ds. *DIGIT.more d ds) (digits_sound fuel s start (at + 1)))) λ _.
    gives at refl *DIGIT.none

-- digits of which there must be one
some_digits_lem : (fuel : ℕ) (s : Bytes) (start at : ℕ) (P : Bytes → Type 0) → DIGIT (byte s at) → length s ≤ fuel + at →
    ((w : Bytes) → *DIGIT w → P (byte s at ∷ w)) →
    Sound s there at (Derives P) (digits fuel s start at)
unfolding digits is_digit
some_digits_lem zero s start at P d l derive = absurd (omega (arith, in_text s at (omega arith)))
some_digits_lem (suc fuel) s start at P d l derive =
    rw (in_range 0x30 0x39 (byte s at) d.0 d.1)
    (counted_then (Derives P) (digits fuel s start) (byte s at) start (omega arith) refl (weaken (λ w x ds. derive w ds) (digits_sound fuel s start (at + 1))))

some_digits_sound : (s : Bytes) (start at : ℕ) (P : Bytes → Type 0) → Some (Derives P) →
    (DIGIT (byte s at) → (w : Bytes) → *DIGIT w → P (byte s at ∷ w)) →
    Sound s there at (Derives P) (some_digits s start at)
unfolding some_digits
some_digits_sound s start at P some derive = check_then 0x30 0x39 some λ l h. some_digits_lem (length s) s start at P (l, h) (omega arith) (derive (l, h))

pub int-sound : (s : Bytes) (start at : ℕ) → Sound s there at (Derives int) (Numbers.int s start at)
unfolding Numbers.int
int-sound s start at =
    choose (eqb (byte s at) 0x30) (λ h. counted_sound int 0x30 start (omega arith) (eqb-true _ _ h) int.zero) λ h.
    let other : byte s at ≡ 0x30 → ⊥ = eqb-false (byte s at) 0x30 h in
    some_digits_sound s start at int (some (0x30 ∷ []) 0 int.zero) (λ d w ds. int.nonzero {d = byte s at} (omega arith) ds)

zero_digit : DIGIT 0x30
zero_digit = omega arith

pub frac-sound : (s : Bytes) (start at : ℕ) → Sound s there at (Derives (optional frac)) (Numbers.frac s start at)
unfolding Numbers.frac
frac-sound s start at =
    choose (eqb (byte s at) 0x2E)
    (λ h. counted_then _ _ 0x2E start (omega arith) (eqb-true _ _ h)
    (some_digits_sound s start (at + 1) (λ w. optional frac (0x2E ∷ w)) (some (0x30 ∷ []) 0 (point zero_digit *DIGIT.none)) (λ d w ds. point d ds))) λ _.
    gives at refl optional.absent
  where
    point : {d : ℕ} {w : Bytes} → DIGIT d → *DIGIT w → optional frac (0x2E ∷ d ∷ w)
    point d ds = optional.present (frac.decimal_point (1*DIGIT.some d ds))

pub sign-sound : (s : Bytes) (start at : ℕ) → Sound s there at (Derives (optional sign)) (Numbers.sign s start at)
unfolding Numbers.sign
sign-sound s start at =
    choose (eqb (byte s at) 0x2B || eqb (byte s at) 0x2D)
    (λ h. either (eqb (byte s at) 0x2B) (eqb (byte s at) 0x2D) h
    (λ i. counted_sound (optional sign) 0x2B start (omega arith) (eqb-true _ _ i) (optional.present sign.plus-sign))
    (λ i. counted_sound (optional sign) 0x2D start (omega arith) (eqb-true _ _ i) (optional.present sign.minus-sign))) λ _.
    gives at refl optional.absent

-- the digits of an exponent
exponent_digits_sound : (fuel : ℕ) (s : Bytes) (start size at : ℕ) → Sound s there at (Derives *DIGIT) (exponent_digits fuel s start size at)
unfolding exponent_digits
exponent_digits_sound zero s start size at = gives at refl *DIGIT.none
exponent_digits_sound (suc fuel) s start size at =
    choose (is_digit (byte s at))
    (λ h. let d = digit (byte s at) h in
    choose (leb (size * 10 + (byte s at - 0x30)) max_exponent)
    (λ _. counted_then _ _ (byte s at) start (omega arith) refl (weaken (λ w x ds. *DIGIT.more d ds) (exponent_digits_sound fuel s start _ (at + 1)))) λ _.
    exceeds number_over_limit (omega arith)) λ _.
    gives at refl *DIGIT.none

some_exponent_digits : (fuel : ℕ) (s : Bytes) (start size at : ℕ) → DIGIT (byte s at) → length s ≤ fuel + at →
    Sound s there at (Derives 1*DIGIT) (exponent_digits fuel s start size at)
unfolding exponent_digits is_digit
some_exponent_digits zero s start size at d l = absurd (omega (arith, in_text s at (omega arith)))
some_exponent_digits (suc fuel) s start size at d l =
    rw (in_range 0x30 0x39 (byte s at) d.0 d.1)
    (choose (leb (size * 10 + (byte s at - 0x30)) max_exponent)
    (λ _. counted_then (Derives 1*DIGIT) (exponent_digits fuel s start _) (byte s at) start (omega arith) refl
    (weaken (λ w x ds. 1*DIGIT.some d ds) (exponent_digits_sound fuel s start _ (at + 1)))) λ _.
    exceeds number_over_limit (omega arith))

signed_digits_sound : {b : ℕ} → e b → (s : Bytes) (start at : ℕ) → Sound s there at (Derives (λ w. exp (b ∷ w))) (signed_digits s start at)
unfolding signed_digits
signed_digits_sound d s start at =
    and_then _ (sign-sound s start at) (λ w x p. some (0x30 ∷ []) 0 (exp.exponent d p (1*DIGIT.some zero_digit *DIGIT.none))) λ w x p.
    check_then 0x30 0x39 (some (0x30 ∷ []) 0 (exp.exponent d p (1*DIGIT.some zero_digit *DIGIT.none))) λ l h.
    weaken (λ w' y ds. exp.exponent d p ds) (some_exponent_digits (length s) s start 0 x (l, h) (omega arith))

exp-sound : (s : Bytes) (start at : ℕ) → Sound s there at (Derives (optional exp)) (Numbers.exp s start at)
unfolding Numbers.exp is_e
exp-sound s start at =
    choose (eqb (byte s at) 0x65 || eqb (byte s at) 0x45)
    (λ h. either (eqb (byte s at) 0x65) (eqb (byte s at) 0x45) h
    (λ i. letter e.lower_case (omega arith) (eqb-true _ _ i)) (λ i. letter e.upper_case (omega arith) (eqb-true _ _ i))) λ _.
    gives at refl optional.absent
  where
    letter : {b : ℕ} → e b → 0 < b → byte s at ≡ b → Sound s there at (Derives (optional exp)) (counted start at >>= signed_digits s start)
    letter {b} d l h = counted_then _ _ b start l h (weaken (λ w x p. optional.present p) (signed_digits_sound d s start (at + 1)))

pub number-sound : (s : Bytes) (start : ℕ) → Sound s there start (Derives number) (Numbers.number s start)
unfolding Numbers.number Numbers.minus
number-sound s start = go (eqb (byte s start) 0x2D) refl
  where
    parts : {m : Bytes} → optional minus m → (at : ℕ) →
        Sound s there at (Derives (λ w. number (m ++ w)))
        (Numbers.int s start at >>= λ fraction. Numbers.frac s start fraction >>= λ exponent. Numbers.exp s start exponent)
    parts pm at =
        and_then _ (int-sound s start at) (λ w x pi. some [] 0 (number.parts pm pi optional.absent optional.absent)) λ w x pi.
        and_then _ (frac-sound s start x) (λ w' y pf. some [] 0 (number.parts pm pi pf optional.absent)) λ w' y pf.
        weaken (λ w'' z px. number.parts pm pi pf px) (exp-sound s start y)

    go : (c : Bool) → eqb (byte s start) 0x2D ≡ c →
        Sound s there start (Derives number)
        (Numbers.int s start (if c then start + 1 else start) >>= λ fraction. Numbers.frac s start fraction >>= λ exponent. Numbers.exp s start exponent)
    go true h = past (Derives number) 0x2D (start + 1) (omega arith) (eqb-true _ _ h) refl (parts (optional.present minus.minus-sign) (start + 1))
    go false h = parts optional.absent start
