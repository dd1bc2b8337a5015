-- A number that is refused by 7: its bytes before that place, and the byte there, with which it passes a limit.
use Rattle.std.specs.Prelude.{if◌then◌else◌}
use Prim.Native.Nat.{ℕ, zero, suc, ◌+◌, ◌-◌, ◌*◌, ◌<◌, ◌≤◌}
use mathlib.Core.Path.{◌≡◌, refl, ap, subst, sym, ◌∙◌}
use mathlib.Core.Bool.{Bool, true, false, ◌||◌}
use mathlib.Core.List.{[], ◌∷◌, ◌++◌, append_assoc, append-nil}
use native.Mathlib.Omega.{arith}
use lib.ListN.{length}
use lib.IntN.{nat_abs}
use lib.Dec.{eqb, leb, ltb}
use borrow.Author.Tests.{eqb-true, eqb-false, leb-true, leb-false, ltb-true, ltb-false}
use Rattle.spec.specs.Outcome.{Outcome, ok, refused, ◌>>=◌}
use Rattle.spec.specs.Refusal.{not_json, number_over_limit}
use Rattle.spec.specs.Limits.{max_number, max_exponent}
use Rattle.spec.specs.Bytes.{Bytes, byte}
use Rattle.spec.specs.Worth.{decimal, exponent}
use Rattle.spec.specs.Numbers as Numbers
use Rattle.spec.specs.Numbers.{is_digit, is_e, counted, digits, some_digits, exponent_digits, signed_digits}
use Rattle.grammar.specs.Grammar.{optional, DIGIT, *DIGIT, 1*DIGIT, minus, int, frac, e, sign, exp, number}
use Rattle.grammar.specs.RefusedAt.{PassesLimit, byte_129, exponent-digit}
use Rattle.grammar.proofs.Places.{From, here, one, join, cons, in_text}
use Rattle.grammar.proofs.Tests.{either}
use Rattle.grammar.proofs.Sound.{Sound, found}
use Rattle.grammar.proofs.Refusing.{Refusing, result, refusal, choose, and_then, check_then}
use Rattle.grammar.proofs.NumbersSound.{digit, there, Derives, int-sound, frac-sound}
use Rattle.grammar.proofs.Within.{Yields, yielded, Short, int-short, frac-short}
use Rattle.grammar.proofs.NumbersComplete.{exponent-size, minus-exponent, int-exponent, frac-exponent}

-- bytes that some number begins with
record Begun (w : Bytes) : Type 0 where
  more : Bytes
  derived : number (w ++ more)

begun : {w : Bytes} (more : Bytes) {x : Bytes} → x ≡ w ++ more → number x → Begun w
begun more e d = record { more = more; derived = subst number e d }

-- in s, the number that begins at `start` passes a limit with the byte at p
pub record OverLimit (s : Bytes) (start p : ℕ) : Type 0 where
  pub text : Bytes
  pub from : From s start text p
  pub there : 0 < byte s p
  pub short : p ≤ start + max_number
  pub passes : PassesLimit text (byte s p)

pub data NumberFault (s : Bytes) (start : ℕ) : ℕ → ℕ → Type 0 where
  by_3 : {p : ℕ} → NumberFault s start not_json p
  by_7 : {p : ℕ} → OverLimit s start p → NumberFault s start number_over_limit p

-- digits, and one more
all : {ds : Bytes} → 1*DIGIT ds → *DIGIT ds
all (1*DIGIT.some d ds) = *DIGIT.more d ds

digits_snoc : {ds : Bytes} {b : ℕ} → *DIGIT ds → DIGIT b → 1*DIGIT (ds ++ (b ∷ []))
digits_snoc *DIGIT.none d = 1*DIGIT.some d *DIGIT.none
digits_snoc (*DIGIT.more c ds) d = 1*DIGIT.some c (all (digits_snoc ds d))

decimal_snoc : (n : ℕ) (ds : Bytes) (b : ℕ) → decimal n (ds ++ (b ∷ [])) ≡ decimal n ds * 10 + (b - 0x30)
unfolding decimal
decimal_snoc n [] b = refl
decimal_snoc n (d ∷ ds) b = decimal_snoc (n * 10 + (d - 0x30)) ds b

not_none : {ds : Bytes} → *DIGIT ds → 0 < decimal 0 ds → 1*DIGIT ds
unfolding decimal
not_none *DIGIT.none l = absurd (omega arith)
not_none (*DIGIT.more d ds) l = 1*DIGIT.some d ds

zero_digit : DIGIT 0x30
zero_digit = omega arith

zero_alone : 1*DIGIT (0x30 ∷ [])
zero_alone = 1*DIGIT.some zero_digit *DIGIT.none

module _ (s : Bytes) (start : ℕ) where
  abbrev Faults : Outcome ℕ → Type 0
  Faults o = Refusing (NumberFault s start) o

  -- the bytes n of the number before the place `at`, at most 128 of them, and a byte there that continues them
  record Reached (n : Bytes) (at : ℕ) : Type 0 where
    from : From s start n at
    short : at ≤ start + max_number

  record GoesOn (n : Bytes) (at : ℕ) : Type 0 where
    there : 0 < byte s at
    begun : Begun (n ++ (byte s at ∷ []))

  next : {n : Bytes} {at : ℕ} → Reached n at → GoesOn n at → at < start + max_number → Reached (n ++ (byte s at ∷ [])) (at + 1)
  next {at = at} r g l = record { from = join r.from (one at (in_text s at g.there)); short = omega arith }

  -- byte 129
  too_long : {n : Bytes} {at : ℕ} → Reached n at → GoesOn n at → start + max_number ≤ at → NumberFault s start number_over_limit at
  too_long {n} {at} r g l =
      let far = r.from.far in
      let short = r.short in
      let b = g.begun in
      by_7
      (record {
        text = n;
        from = r.from;
        there = g.there;
        short = short;
        passes = byte_129 b.more (subst number (append_assoc n (byte s at ∷ []) b.more) b.derived) (omega arith);
      })

  counted_faults : {n : Bytes} (at : ℕ) → Reached n at → GoesOn n at → Faults (counted start at)
  unfolding counted
  counted_faults at r g = choose (ltb at (start + max_number)) (λ _. result) (λ e. refusal (too_long r g (ltb-false at (start + max_number) e)))

  counted_then : {n : Bytes} (at : ℕ) (f : ℕ → Outcome ℕ) → Reached n at → GoesOn n at →
      (Reached (n ++ (byte s at ∷ [])) (at + 1) → Faults (f (at + 1))) → Faults (counted start at >>= f)
  unfolding counted ◌>>=◌
  counted_then at f r g rest = go (ltb at (start + max_number)) refl
    where
      go : (c : Bool) → ltb at (start + max_number) ≡ c → Faults ((if c then ok (at + 1) else refused number_over_limit at) >>= f)
      go true e = rest (next r g (ltb-true at (start + max_number) e))
      go false e = refusal (too_long r g (ltb-false at (start + max_number) e))

  -- *DIGIT, where any digits from here on continue the number
  digits_faults : (fuel : ℕ) {n : Bytes} (at : ℕ) → Reached n at → ((ds : Bytes) → DIGIT (byte s at) → *DIGIT ds → Begun (n ++ (byte s at ∷ ds))) →
      Faults (digits fuel s start at)
  unfolding digits
  digits_faults zero at r go_on = result
  digits_faults (suc fuel) {n} at r go_on =
      choose (is_digit (byte s at))
      (λ h. let d = digit (byte s at) h in
      counted_then at _ r (record { there = omega arith; begun = go_on [] d *DIGIT.none }) λ r'.
      digits_faults fuel (at + 1) r' λ ds d' h'. subst Begun (sym (append_assoc n _ _)) (go_on (byte s (at + 1) ∷ ds) d (*DIGIT.more d' h')))
      (λ _. result)

  some_digits_faults : {n : Bytes} (at : ℕ) → Reached n at → ((ds : Bytes) → DIGIT (byte s at) → *DIGIT ds → Begun (n ++ (byte s at ∷ ds))) →
      Faults (some_digits s start at)
  unfolding some_digits
  some_digits_faults at r go_on = check_then s at _ _ by_3 λ l h. digits_faults (length s) at r go_on

  -- a byte that is known
  is : {n : Bytes} {at : ℕ} (b : ℕ) → 0 < b → byte s at ≡ b → Begun (n ++ (b ∷ [])) → GoesOn n at
  is {n} {at} b l e d = record { there = omega arith; begun = subst (λ b. Begun (n ++ (b ∷ []))) (sym e) d }

  -- number = [ minus ] int [ frac ] [ exp ], part by part

  int-faults : {m : Bytes} (at : ℕ) → optional minus m → Reached m at → Faults (Numbers.int s start at)
  unfolding Numbers.int
  int-faults {m} at pm r =
      choose (eqb (byte s at) 0x30)
      (λ h. counted_faults at r
      (is 0x30 (omega arith) (eqb-true _ _ h) (begun [] (simp append_assoc) (number.parts pm int.zero optional.absent optional.absent)))) λ h.
      let other : byte s at ≡ 0x30 → ⊥ = eqb-false (byte s at) 0x30 h in
      some_digits_faults at r λ ds d h'.
      begun [] (simp append_assoc) (number.parts pm (int.nonzero {d = byte s at} (omega arith) h') optional.absent optional.absent)

  frac-faults : {m i : Bytes} (at : ℕ) → optional minus m → int i → Reached (m ++ i) at → Faults (Numbers.frac s start at)
  unfolding Numbers.frac
  frac-faults {m} {i} at pm pi r =
      choose (eqb (byte s at) 0x2E)
      (λ h. let point = eqb-true (byte s at) 0x2E h in
      counted_then at _ r (is 0x2E (omega arith) point (begun (0x30 ∷ []) (simp append_assoc) (with_point zero_digit *DIGIT.none))) λ r'.
      some_digits_faults (at + 1) r' λ ds d h'.
      subst (λ b. Begun (((m ++ i) ++ (b ∷ [])) ++ (byte s (at + 1) ∷ ds))) (sym point) (begun [] (simp append_assoc) (with_point d h')))
      (λ _. result)
    where
      with_point : {d : ℕ} {ds : Bytes} → DIGIT d → *DIGIT ds → number (m ++ (i ++ ((0x2E ∷ d ∷ ds) ++ [])))
      with_point d ds = number.parts pm pi (optional.present (frac.decimal_point (1*DIGIT.some d ds))) optional.absent

  sign-then : {n : Bytes} (at : ℕ) (f : ℕ → Outcome ℕ) → Reached n at → ((w : Bytes) → optional sign w → Begun (n ++ w)) →
      ((w : Bytes) (x : ℕ) → optional sign w → Reached (n ++ w) x → Faults (f x)) → Faults (Numbers.sign s start at >>= f)
  unfolding Numbers.sign ◌>>=◌
  sign-then {n} at f r go_on rest = go (eqb (byte s at) 0x2B) refl (eqb (byte s at) 0x2D) refl
    where
      signed : (b : ℕ) → 0 < b → sign (b ∷ []) → byte s at ≡ b → Faults (counted start at >>= f)
      signed b l p e =
          counted_then at f r (is b l e (go_on (b ∷ []) (optional.present p))) λ r'.
          rest (b ∷ []) (at + 1) (optional.present p) (subst (λ b. Reached (n ++ (b ∷ [])) (at + 1)) e r')

      go : (p : Bool) → eqb (byte s at) 0x2B ≡ p → (m : Bool) → eqb (byte s at) 0x2D ≡ m → Faults ((if p || m then counted start at else ok at) >>= f)
      go true h m i = signed 0x2B (omega arith) sign.plus-sign (eqb-true _ _ h)
      go false h true i = signed 0x2D (omega arith) sign.minus-sign (eqb-true _ _ i)
      go false h false i = rest [] at optional.absent (subst (λ w. Reached w at) (sym (append-nil n)) r)

  -- the digits of an exponent, after the bytes `pre` of the number
  module _ (pre : Bytes) (whole : (ds : Bytes) → 1*DIGIT ds → number (pre ++ ds))
      (size_of : (ds : Bytes) → 1*DIGIT ds → nat_abs (exponent (pre ++ ds)) ≡ decimal 0 ds) where
    -- the digit that passes 9,999
    passes : {ds : Bytes} (at : ℕ) → *DIGIT ds → DIGIT (byte s at) → decimal 0 ds ≤ max_exponent → max_exponent < decimal 0 ds * 10 + (byte s at - 0x30) →
        PassesLimit (pre ++ ds) (byte s at)
    passes {ds} at h d fits over =
        let some = not_none h (omega arith) in
        let more = digits_snoc h d in
        exponent-digit (whole ds some) (rw (size_of ds some) fits) (rw append_assoc (whole (ds ++ (byte s at ∷ [])) more))
        (rw (append_assoc pre ds (byte s at ∷ []), size_of (ds ++ (byte s at ∷ [])) more, decimal_snoc 0 ds (byte s at)) over)

    exponent_digits_faults : (fuel : ℕ) {ds : Bytes} (size at : ℕ) → *DIGIT ds → size ≡ decimal 0 ds → size ≤ max_exponent → Reached (pre ++ ds) at →
        Faults (exponent_digits fuel s start size at)
    unfolding exponent_digits
    exponent_digits_faults zero size at h e fits r = result
    exponent_digits_faults (suc fuel) {ds} size at h e fits r =
        choose (is_digit (byte s at))
        (λ i. let d = digit (byte s at) i in
        let b = byte s at in
        choose (leb (size * 10 + (byte s at - 0x30)) max_exponent)
        (λ j. counted_then at _ r
        (record { there = omega arith; begun = begun [] (simp append_assoc) (whole (ds ++ (byte s at ∷ [])) (digits_snoc h d)) }) λ r'.
        exponent_digits_faults fuel {ds = ds ++ (byte s at ∷ [])} _ (at + 1) (all (digits_snoc h d)) (rw (e, decimal_snoc 0 ds (byte s at))) (leb-true _ _ j)
        (subst (λ w. Reached w (at + 1)) (append_assoc pre ds _) r'))
        (λ j. let over = leb-false (size * 10 + (byte s at - 0x30)) max_exponent j in
        refusal (by_7
        (record { text = pre ++ ds; from = r.from; there = omega arith; short = r.short; passes = passes at h d (omega arith) (omega arith) }))))
        (λ _. result)

  exp-faults : {m i f : Bytes} (at : ℕ) → optional minus m → int i → optional frac f → Reached (m ++ (i ++ f)) at → Faults (Numbers.exp s start at)
  unfolding Numbers.exp signed_digits is_e decimal
  exp-faults {m} {i} {f} at pm pi pf r =
      choose (eqb (byte s at) 0x65 || eqb (byte s at) 0x45)
      (λ h. either (eqb (byte s at) 0x65) (eqb (byte s at) 0x45) h
      (λ j. letter e.lower_case (omega arith) (eqb-true _ _ j)) (λ j. letter e.upper_case (omega arith) (eqb-true _ _ j)))
      (λ _. result)
    where
      text : (b : ℕ) (w ds : Bytes) → m ++ (i ++ (f ++ (b ∷ (w ++ ds)))) ≡ (((m ++ (i ++ f)) ++ (b ∷ [])) ++ w) ++ ds
      text b w ds = simp append_assoc

      whole : {b : ℕ} → e b → (w : Bytes) → optional sign w → (ds : Bytes) → 1*DIGIT ds → number ((((m ++ (i ++ f)) ++ (b ∷ [])) ++ w) ++ ds)
      whole {b} x w p ds h = subst number (text b w ds) (number.parts pm pi pf (optional.present (exp.exponent x p h)))

      size_of : {b : ℕ} → e b → (w : Bytes) → optional sign w → (ds : Bytes) → 1*DIGIT ds →
          nat_abs (exponent ((((m ++ (i ++ f)) ++ (b ∷ [])) ++ w) ++ ds)) ≡ decimal 0 ds
      size_of {b} x w p ds h =
          ap (λ t. nat_abs (exponent t)) (sym (text b w ds)) ∙
          ap nat_abs (minus-exponent pm _ ∙ int-exponent pi _ ∙ frac-exponent pf _) ∙ exponent-size x p h

      letter : {b : ℕ} → e b → 0 < b → byte s at ≡ b → Faults (counted start at >>= signed_digits s start)
      letter {b} x l same =
          counted_then at _ r (is b l same (begun (0x30 ∷ []) (simp append_assoc) (whole x [] optional.absent (0x30 ∷ []) zero_alone))) λ r'.
          sign-then (at + 1) _ (subst (λ b. Reached ((m ++ (i ++ f)) ++ (b ∷ [])) (at + 1)) same r')
          (λ w p. begun (0x30 ∷ []) refl (whole x w p (0x30 ∷ []) zero_alone)) λ w y p r''.
          check_then s y _ _ by_3 λ _ _.
          exponent_digits_faults (((m ++ (i ++ f)) ++ (b ∷ [])) ++ w) (whole x w p) (size_of x w p) (length s) 0 y *DIGIT.none refl (omega arith)
          (subst (λ w. Reached w y) (sym (append-nil _)) r'')

  pub number-faults : Faults (Numbers.number s start)
  unfolding Numbers.number Numbers.minus
  number-faults = go (eqb (byte s start) 0x2D) refl
    where
      parts : {m : Bytes} (at : ℕ) → optional minus m → Reached m at →
          Faults (Numbers.int s start at >>= λ fraction. Numbers.frac s start fraction >>= λ exponent. Numbers.exp s start exponent)
      parts at pm r =
          and_then _ (int-faults at pm r) λ x is_x.
          let i = found (subst (Sound s there at (Derives int)) is_x (int-sound s start at)) in
          let short = yielded (subst (Yields (Short s start)) is_x (int-short s start at r.short)) in
          and_then _ (frac-faults x pm i.derived (record { from = join r.from i.from; short = short })) λ y is_y.
          let f = found (subst (Sound s there x (Derives (optional frac))) is_y (frac-sound s start x)) in
          let short' = yielded (subst (Yields (Short s start)) is_y (frac-short s start x short)) in
          exp-faults y pm i.derived f.derived (record { from = join r.from (join i.from f.from); short = short' })

      go : (c : Bool) → eqb (byte s start) 0x2D ≡ c →
          Faults (Numbers.int s start (if c then start + 1 else start)
          >>= λ fraction. Numbers.frac s start fraction >>= λ exponent. Numbers.exp s start exponent)
      go true h =
          let minus-there = eqb-true (byte s start) 0x2D h in
          parts (start + 1) (optional.present minus.minus-sign)
          (record { from = cons 0x2D (omega arith) minus-there (here (start + 1)); short = omega arith })
      go false h = parts start optional.absent (record { from = here start; short = omega arith })
