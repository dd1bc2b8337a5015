-- The theorems of specs/RefusedAt.
use Prim.Native.Nat.{ℕ, suc, ◌+◌, ◌-◌, ◌<◌, ◌≤◌}
use Prim.Native.Char.{code}
use mathlib.Core.Path.{◌≡◌, refl, ap, subst, sym, ◌∙◌}
use mathlib.Core.Bool.{true, false}
use mathlib.Core.List.{[], ◌∷◌, ◌++◌, append_assoc, append-nil}
use native.Mathlib.Omega.{arith}
use native.Mathlib.Decide.{dec_lt}
use lib.ListN.{length, take, drop, length-append, take-append-drop}
use lib.Seq.{length-take-le, take-append_seam, take-length}
use lib.Dec.{eqb}
use borrow.Author.Tests.{eqb-true, eqb-false}
use Rattle.spec.specs.Outcome.{Outcome, ok, refused}
use Rattle.spec.specs.Refusal.{not_json, repeated_name, too_deep, too_many_nodes, number_over_limit}
use Rattle.spec.specs.Bytes.{Bytes, ascii, byte}
use Rattle.spec.specs.Value as Value
use Rattle.spec.specs.Read.{read}
use Rattle.spec.proofs.OutcomeLaws.{refused≢ok}
use Rattle.grammar.specs.Grammar.{ws, structural, string, value, JSON-text}
use Rattle.grammar.specs.Theorems.{Begins}
use Rattle.grammar.specs.RefusedAt.{next-member, ByteAt, SecondName, closing_quote, of_array, of-object, OpensLevel33, bracket, BeginsValue2049}
use Rattle.grammar.specs.RefusedAt.{first_byte, byte_129, exponent-digit, NumberOverLimit, passing_byte, NotJSON, Given3, Given4, Given5, Given6, Given7}
use Rattle.grammar.specs.RefusedAt.{After3, Unrefused, read_whole, cut_short, LeftToRight}
use Rattle.grammar.proofs.Places.{From, from_whole, from_first, from_rest, from_middle, first}
use Rattle.grammar.proofs.Tests.{by_cases}
use Rattle.grammar.proofs.Refusing.{Refusing, refused_so}
use Rattle.grammar.proofs.Before.{complete, shorter}
use Rattle.grammar.proofs.Faults.{Fault, by_3, by_4, by_5, by_6, by_7, empty, read_faults}
use Rattle.grammar.proofs.Given as Given
use Rattle.grammar.proofs.Theorems.{soundness, refusals, place_of_3, refused_alike}

fault : (s : Bytes) (number p : ℕ) → read s ≡ refused number p → Fault s number p
fault s number p e = refused_so (subst (Refusing (Fault s)) e (read_faults s))

-- what stands at the place, by the number
module _ {s : Bytes} {p : ℕ} where
  four : Fault s repeated_name p → SecondName s p
  four (by_4 x) = x

  five : Fault s too_deep p → OpensLevel33 s p
  five (by_5 x) = x

  six : Fault s too_many_nodes p → BeginsValue2049 s p
  six (by_6 x) = x

  seven : Fault s number_over_limit p → NumberOverLimit s p
  seven (by_7 x) = x

-- The byte of a refusal by a number other than 3, and those before it, begin some JSON text.

module _ {s : Bytes} {p : ℕ} where
  -- a text that begins with the bytes before, the byte, and more
  with_byte : {w w' : Bytes} {b : ℕ} → ByteAt s p w b → Begins w' → (more : Bytes) → w' ≡ w ++ (b ∷ more) → Begins (take (suc p) s)
  with_byte {w} {b = b} at begins more e =
      let place = at.place in
      let many : suc p ≡ length (w ++ (b ∷ [])) = omega (arith, length-append w (b ∷ [])) in
      let taken : take (suc p) s ≡ w ++ (b ∷ []) =
      ap (take (suc p)) (at.text ∙ sym (append_assoc w (b ∷ []) at.after)) ∙ ap (λ n. take n ((w ++ (b ∷ [])) ++ at.after)) many ∙
      take-append_seam (w ++ (b ∷ [])) at.after in
      subst Begins (sym taken) (shorter begins (w ++ (b ∷ [])) more (e ∙ sym (append_assoc w (b ∷ []) more)))

  after_quote : SecondName s p → Begins (take (suc p) s)
  after_quote (closing_quote {w} {b} {ms} {c} {cs} h o i q ch m at) =
      with_byte at (complete (next-member h o i q (string.quoted ch) (structural.around ws.none ws.none)) value.null_literal)
      (code ":" ∷ ascii "null") (simp append_assoc)

  after_bracket : OpensLevel33 s p → Begins (take (suc p) s)
  after_bracket (bracket h of_array at) = with_byte at (complete h (empty false)) _ refl
  after_bracket (bracket h of-object at) = with_byte at (complete h (empty true)) _ refl

  after_first : BeginsValue2049 s p → Begins (take (suc p) s)
  after_first (first_byte h d n o at) = with_byte at (complete h d) _ refl

  after_passing : NumberOverLimit s p → Begins (take (suc p) s)
  after_passing (passing_byte {w} {n} {b} h (byte_129 more d l) at) = with_byte at (complete h (value.of_number d)) more (sym (append_assoc w n (b ∷ more)))
  after_passing (passing_byte {w} {n} {b} h (exponent-digit d fits d' over) at) =
      with_byte at (complete h (value.of_number d')) [] (sym (append_assoc w n (b ∷ [])))

  begins_so : {number : ℕ} → Fault s number p → ¬ (number ≡ not_json) → Begins (take (suc p) s)
  begins_so by_3 n = absurd (n refl)
  begins_so (by_4 x) n = after_quote x
  begins_so (by_5 x) n = after_bracket x
  begins_so (by_6 x) n = after_first x
  begins_so (by_7 x) n = after_passing x

pub after_3 : After3
after_3 s number p e n = begins_so (fault s number p e) n

-- The first byte that causes a refusal.

byte_inside : {s w : Bytes} {p b : ℕ} → ByteAt s p w b → p < length s
byte_inside {w = w} {b = b} at = let place = at.place in omega (arith, ap length at.text, length-append w (b ∷ at.after))

fault_inside : {s : Bytes} {number p : ℕ} → Fault s number p → (number ≡ not_json → ⊥) → p < length s
fault_inside by_3 n = absurd (n refl)
fault_inside (by_4 (closing_quote h o i q ch m at)) n = byte_inside at
fault_inside (by_5 (bracket h o at)) n = byte_inside at
fault_inside (by_6 (first_byte h d v o at)) n = byte_inside at
fault_inside (by_7 (passing_byte h x at)) n = byte_inside at

-- a refusal by 3, or by another number
by_number : {C : Type 0} (s : Bytes) (number p : ℕ) → read s ≡ refused number p → (read s ≡ refused not_json p → C) → ((number ≡ not_json → ⊥) → C) → C
by_number s number p e f g =
    by_cases (eqb number not_json) (λ h. f (e ∙ ap (λ n. refused n p) (eqb-true number not_json h))) (λ h. g (eqb-false number not_json h))

-- the place of a 3 is in the text or at its end, and that of any other number in the text
place_inside : (s : Bytes) (number p : ℕ) → read s ≡ refused number p → p ≤ length s
place_inside s number p e = by_number s number p e (λ h. (place_of_3 s p h).inside) (λ n. let l = fault_inside (fault s number p e) n in omega arith)

-- a text that is refused nowhere before its end is refused only because it ends there
ends_there : (s : Bytes) (number p : ℕ) → read s ≡ refused number p → length s ≤ p → Unrefused s
ends_there s number p e l =
    by_number s number p e
    (λ h.
    let inside = (place_of_3 s p h).inside in
    let same : p ≡ length s = omega arith in
    cut_short (h ∙ ap (refused not_json) same))
    (λ n. let k = fault_inside (fault s number p e) n in absurd (omega arith))

-- cut before the place of its refusal, a text is not refused
not_yet : (s : Bytes) (number p : ℕ) → read s ≡ refused number p → (n : ℕ) → n ≤ p → Unrefused (take n s)
not_yet s number p e n l = go (read (take n s)) refl
  where
    many : length (take n s) ≡ n
    many = length-take-le n s (let m = place_inside s number p e in omega arith)

    -- what is refused earlier is refused there on s too
    earlier : (number' q : ℕ) → read (take n s) ≡ refused number' q → q < length (take n s) → ⊥
    earlier number' q e' k =
        let again = refused_alike (take n s) number' q e' (length (take n s)) k (omega arith) (drop n s) in
        let whole : take (length (take n s)) (take n s) ++ drop n s ≡ s = ap (λ t. t ++ drop n s) (take-length (take n s)) ∙ take-append-drop n s in
        let both : ◌≡◌ {A = Outcome Value.Value} (refused number' q) (refused number p) = sym again ∙ ap read whole ∙ e in
        let same : q ≡ p = cc in
        omega (arith, many)

    at_end : (number' q : ℕ) → read (take n s) ≡ refused number' q → Dec (q < length (take n s)) → Unrefused (take n s)
    at_end number' q e' (yes k) = absurd (earlier number' q e' k)
    at_end number' q e' (no k) = ends_there (take n s) number' q e' (omega arith)

    go : (o : Outcome Value.Value) → read (take n s) ≡ o → Unrefused (take n s)
    go (ok v) e' = read_whole e'
    go (refused number' q) e' = at_end number' q e' (dec_lt q (length (take n s)))

pub left_to_right : LeftToRight
left_to_right s number p e =
    record { before = λ n l. not_yet s number p e n (omega arith); after = λ rest l. refused_alike s number p e (suc p) (omega arith) (omega arith) rest }

-- Each number is given where it is said to be.

-- the bytes before a byte, the byte itself, and the two as places in the text
taken : {s w : Bytes} {p b : ℕ} → ByteAt s p w b → take p s ≡ w
taken {s} {w} {p} {b} at = ap (λ n. take n s) at.place ∙ ap (take (length w)) at.text ∙ take-append_seam w (b ∷ at.after)

before-byte : {s w : Bytes} {p b : ℕ} → ByteAt s p w b → From s 0 w p
before-byte {w = w} {b = b} at = rw (at.place, at.text) (from_first w (b ∷ at.after))

byte_is : {s w : Bytes} {p b : ℕ} → ByteAt s p w b → byte s p ≡ b
byte_is {w = w} {b = b} at = rw (at.place, at.text) (first (from_rest w (b ∷ at.after))).0

-- where an unrefused text is refused, it is by 3 at its end, and the text begins some JSON text
refused_at_end : {w : Bytes} → Unrefused w → (number q : ℕ) → read w ≡ refused number q → (number ≡ not_json) × (q ≡ length w)
refused_at_end (read_whole e) number q e' = absurd (refused≢ok (sym e' ∙ e))
refused_at_end {w} (cut_short e) number q e' =
    let both : ◌≡◌ {A = Outcome Value.Value} (refused number q) (refused not_json (length w)) = sym e' ∙ e in
    (cc, cc)

unrefused_begins : {w : Bytes} → Unrefused w → Begins w
unrefused_begins {w} (read_whole {v} e) = record { rest = []; meaning = v; derived = subst (λ t. JSON-text t v) (sym (append-nil w)) (soundness w v e) }
unrefused_begins {w} (cut_short e) = subst Begins (take-length w) (place_of_3 w (length w) e).begins

-- where nothing is refused before, the number that is said of the place is given
module _ {s : Bytes} {p : ℕ} (u : Unrefused (take p s)) where
  never : {w : Bytes} {b : ℕ} → ByteAt s p w b → (number q : ℕ) → read w ≡ refused number q → number ≡ not_json
  never at number q e = (refused_at_end (subst Unrefused (taken at) u) number q e).0

  is_3 : NotJSON s p → read s ≡ refused not_json p
  is_3 j = go (read s) refl
    where
      inside : p ≤ length s
      inside = j.longest.inside

      earlier : (number q : ℕ) → read s ≡ refused number q → q < p → ⊥
      earlier number q e l =
          let again = sym (ap read (append-nil (take p s))) ∙ refused_alike s number q e p l inside [] in
          let end = (refused_at_end u number q again).1 in
          omega (arith, length-take-le p s inside)

      -- no beginning is longer
      no_longer : p < length s → Begins (take (suc p) s) → ⊥
      no_longer l b = j.longest.longest (suc p) (omega arith) (omega arith) b

      at_p : (number : ℕ) → read s ≡ refused number p → read s ≡ refused not_json p
      at_p number e = by_number s number p e (λ h. h) (λ n. absurd (no_longer (fault_inside (fault s number p e) n) (begins_so (fault s number p e) n)))

      place : (number q : ℕ) → read s ≡ refused number q → Dec (q < p) → Dec (p < q) → read s ≡ refused not_json p
      place number q e (yes l) d = absurd (earlier number q e l)
      place number q e (no l) (yes m) =
          let end = place_inside s number q e in
          absurd (no_longer (omega arith) (unrefused_begins (not_yet s number q e (suc p) (omega arith))))
      place number q e (no l) (no m) = let same : q ≡ p = omega arith in at_p number (e ∙ ap (refused number) same)

      go : (o : Outcome Value.Value) → read s ≡ o → read s ≡ refused not_json p
      go (ok v) e = absurd (j.no_text v (soundness s v e))
      go (refused number q) e = place number q e (dec_lt q p) (dec_lt p q)

  is_4 : SecondName s p → read s ≡ refused repeated_name p
  is_4 (closing_quote {w} {b} {ms} {c} {cs} h o i q ch m at) =
      let before : Bytes = w ++ (b ++ (ms ++ c)) in
      let name : Bytes = 0x22 ∷ (cs ++ (0x22 ∷ [])) in
      let until : w ++ (b ++ (ms ++ (c ++ (0x22 ∷ cs)))) ≡ (w ++ (b ++ (ms ++ c))) ++ (0x22 ∷ cs) = simp append_assoc in
      let quoted : (0x22 ∷ cs) ++ (0x22 ∷ at.after) ≡ (0x22 ∷ (cs ++ (0x22 ∷ []))) ++ at.after = simp append_assoc in
      let text : s ≡ before ++ (name ++ at.after) =
      at.text ∙ ap (λ t. t ++ (0x22 ∷ at.after)) until ∙ append_assoc before (0x22 ∷ cs) (0x22 ∷ at.after) ∙ ap (λ t. before ++ t) quoted in
      let place = at.place ∙ ap length until in
      let same : length before + length name - 1 ≡ p = omega (arith, length-append before (0x22 ∷ cs), length-append cs (0x22 ∷ [])) in
      let in_c = subst (λ t. From t 0 before (length before)) (sym until) (from_first before (0x22 ∷ cs)) in
      let in-s = subst (λ t. From t 0 before (length before)) (sym text) (from_first before (name ++ at.after)) in
      let named = subst (λ t. From t (length before) name (length before + length name)) (sym text) (from_middle before name at.after) in
      Given.given_4 _ s (never at) h o i q (string.quoted ch) m (in_c, in-s) named ∙ ap (refused repeated_name) same

  is_5 : OpensLevel33 s p → read s ≡ refused too_deep p
  is_5 (bracket {w} h o at) =
      let place = at.place in
      Given.given_5 w s (never at) h (rw at.place (from_whole w), before-byte at) (omega arith) o (byte_is at)

  is_6 : BeginsValue2049 s p → read s ≡ refused too_many_nodes p
  is_6 (first_byte {w} h d visible shallow at) =
      let place = at.place in
      Given.given_6 w s (never at) h (rw at.place (from_whole w), before-byte at) (omega arith) d visible (byte_is at) shallow

  is_7 : NumberOverLimit s p → read s ≡ refused number_over_limit p
  is_7 (passing_byte {w} {n} {b} h passes at) =
      let text : s ≡ w ++ (n ++ (b ∷ at.after)) = at.text ∙ append_assoc w n (b ∷ at.after) in
      Given.given_7 (w ++ n) s (never at) at.after h (from_first w n, rw text (from_first w (n ++ (b ∷ at.after)))) (from_rest w n) at.text passes ∙
      ap (refused number_over_limit) (sym at.place)

up_to : (s : Bytes) (number p : ℕ) → read s ≡ refused number p → Unrefused (take p s)
up_to s number p e = not_yet s number p e p (omega arith)

pub given_3 : Given3
given_3 s p =
    ((λ e. (up_to s not_json p e, record { longest = place_of_3 s p e; no_text = λ v d. (refusals s v not_json p d e).0 refl })), (λ x. is_3 x.0 x.1))

pub given_4 : Given4
given_4 s p = ((λ e. (up_to s repeated_name p e, four (fault s repeated_name p e))), (λ x. is_4 x.0 x.1))

pub given_5 : Given5
given_5 s p = ((λ e. (up_to s too_deep p e, five (fault s too_deep p e))), (λ x. is_5 x.0 x.1))

pub given_6 : Given6
given_6 s p = ((λ e. (up_to s too_many_nodes p e, six (fault s too_many_nodes p e))), (λ x. is_6 x.0 x.1))

pub given_7 : Given7
given_7 s p = ((λ e. (up_to s number_over_limit p e, seven (fault s number_over_limit p e))), (λ x. is_7 x.0 x.1))
