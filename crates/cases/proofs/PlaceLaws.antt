-- A case ends behind its beginning, and its parts lie in the file.
use Prim.Native.Nat.{ℕ, ◌+◌, ◌-◌, ◌<◌}
use mathlib.Core.Path.{◌≡◌, refl, sym, subst, ◌∙◌}
use mathlib.Core.Bool.{Bool, true, false}
use mathlib.Core.List.{List}
use native.Mathlib.Omega.{arith}
use borrow.Author.Tests.{ltb-true}
use lib.Dec.{eqb, leb, ltb}
use lib.ListN.{length, drop, get_or}
use Rattle.std.proofs.Common.{length-drop, nat_lt}
use Rattle.std.specs.Prelude.{if◌then◌else◌, ◌==◌, cond, Option, Some, None, IfSome, position, option_map}
use Rattle.std.specs.List.{position_or_len}
use Rattle.spec.specs.Value.{same_text}
use Rattle.cases.specs.Places.{Met, Behind, PartIs, Numbered, Counted, Measured, TextIs, TextsAre, Stands, If}
use Rattle.cases.specs.Taking.{found, cut, word_at, bytes_at, ◌>>=◌}
use Rattle.cases.specs.Numerals.{worth, number_at, counted, three_at}
use Rattle.cases.specs.CaseFile.{name_at, text_at, texts_at, case_at}
use Rattle.cases.specs.declared.numbers.Three.{Three}
use Rattle.cases.specs.declared.reading.Case.{Case}

-- ---- what holds of both branches, and of what is there and is passed on, holds of the whole
both : {A : Type 0} (P : A → Type 0) (t : Bool) {a b : A} → (t ≡ true → P a) → (t ≡ false → P b) → P (if t then a else b)
both P true on off = on refl
both P false on off = off refl

module _ {A B : Type 0} (P : A → Type 0) (Q : B → Type 0) where
  then_if : (o : Option A) (next : A → Option B) → IfSome o P → ((a : A) → P a → IfSome (next a) Q) → IfSome (o >>= next) Q
  then_if None next p step = tt
  then_if (Some a) next p step = step a p

module _ {A : Type 0} {P Q : A → Type 0} where
  weaker : (o : Option A) → IfSome o P → ((a : A) → P a → Q a) → IfSome o Q
  weaker None p step = tt
  weaker (Some a) p step = step a p

any : {A : Type 0} (o : Option A) → IfSome o (λ a. Unit {0})
any None = tt
any (Some a) = tt

place_met : (xs : List ℕ) (test : ℕ → Bool) (n at : ℕ) → length xs ≡ n - at → IfSome (option_map (λ k. at + k) (position test xs)) (Met n at)
place_met xs test n at e = go (nat_lt (position_or_len test xs) (length xs)) refl
  where
    go : (b : Bool) → nat_lt (position_or_len test xs) (length xs) ≡ b →
        IfSome (option_map (λ k. at + k) (cond b (Some (position_or_len test xs)) None)) (Met n at)
    go true h = (omega arith, grind arith)
    go false h = tt

-- ---- each reader of the file
module _ (s : List ℕ) where
  found_met : (at byte : ℕ) → If Met (length s) at (found s at byte)
  unfolding found
  found_met at byte = place_met (drop at s) (λ b. b == byte) (length s) at (length-drop at s)

  word_taken : (at end : ℕ) → If PartIs (length s) at (word_at s at end)
  unfolding word_at
  word_taken at end =
      then_if (Met (length s) at) (PartIs (length s) at) (found s at end) _ (found_met at end)
      (λ i m. (record { starts = m.0; ends = omega arith }, (omega arith, omega arith)))

  bytes_taken : (at count : ℕ) → If PartIs (length s) at (bytes_at s at count)
  unfolding bytes_at
  bytes_taken at count =
      both (If PartIs (length s) at) (ltb (at + count) (length s))
      (λ e. let h : at + count < length s = ltb-true _ _ e in both (If PartIs (length s) at) (eqb (get_or s (at + count) 0) 10)
      (λ f. (record { starts = omega arith; ends = omega arith }, (omega arith, omega arith))) (λ f. tt))
      (λ e. tt)

  number_behind : (at end : ℕ) → If Numbered (length s) at (number_at s at end)
  unfolding number_at
  number_behind at end =
      then_if (PartIs (length s) at) (Numbered (length s) at) (word_at s at end) _ (word_taken at end)
      (λ word w. then_if (λ n. Unit {0}) (Numbered (length s) at) (worth (cut s word.value)) _ (any (worth (cut s word.value))) (λ n u. w.1))

  onward : (at end : ℕ) → If Counted (length s) at (number_at s at end)
  onward at end = weaker (number_at s at end) (number_behind at end) (λ t h. (omega arith, λ k. h.1))

  counted_on : (at i count end : ℕ) → If Counted (length s) at (counted s at i count end)
  unfolding counted
  counted_on at i count end =
      both (If Counted (length s) at) (leb count i) (λ e. (omega arith, λ k. k))
      (λ e. both (If Counted (length s) at) (eqb (count - i) 1) (λ f. onward at end) (λ f. onward at 32))

  three_on : (at count end : ℕ) → If Measured (length s) at (three_at s at count end)
  unfolding three_at
  three_on at count end =
      then_if (Counted (length s) at) (Measured (length s) at) (counted s at 0 count end) _ (counted_on at 0 count end)
      (λ first f. then_if (Counted (length s) first.next) (Measured (length s) at) (counted s first.next 1 count end) _ (counted_on first.next 1 count end)
      (λ second g. then_if (Counted (length s) second.next) (Measured (length s) at) (counted s second.next 2 count end) _ (counted_on second.next 2 count end)
      (λ third h. (omega arith, λ k. h.1 (g.1 (f.1 k))))))

  text_on : (at i count n : ℕ) → If TextIs (length s) at (text_at s at i count n)
  unfolding text_at
  text_on at i count n =
      both (If TextIs (length s) at) (leb count i)
      (λ e. ((λ k. record { starts = omega arith; ends = k }), (omega arith, λ k. k)))
      (λ e. weaker (bytes_at s at n) (bytes_taken at n) (λ t h. ((λ k. h.0), (omega arith, λ k. h.1.1))))

  texts_on : (at : ℕ) (lengths : Three ℕ) (count : ℕ) → If TextsAre (length s) at (texts_at s at lengths count)
  unfolding texts_at
  texts_on at lengths count =
      then_if (TextIs (length s) at) (TextsAre (length s) at) (text_at s at 0 count lengths.first) _ (text_on at 0 count lengths.first)
      (λ first f. then_if (TextIs (length s) first.next) (TextsAre (length s) at) (text_at s first.next 1 count lengths.second) _
      (text_on first.next 1 count lengths.second)
      (λ second g. then_if (TextIs (length s) second.next) (TextsAre (length s) at) (text_at s second.next 2 count lengths.third) _
      (text_on second.next 2 count lengths.third)
      (λ third h. (
        (λ k. record { first = f.0 k; second = g.0 (f.1.1 k); third = h.0 (g.1.1 (f.1.1 k)) }),
        (omega arith, λ k. h.1.1 (g.1.1 (f.1.1 k))),
      ))))

  name_taken : (at : ℕ) (word : List ℕ) → If PartIs (length s) at (name_at s at word)
  unfolding name_at
  name_taken at word =
      then_if (PartIs (length s) at) (PartIs (length s) at) (word_at s at 32) _ (word_taken at 32)
      (λ first f. both (If PartIs (length s) at) (same_text (cut s first.value) word)
      (λ e. weaker (word_at s first.next 32) (word_taken first.next 32) (λ t h. (h.0, (omega (arith, f.1.0, h.1.0), h.1.1)))) (λ e. tt))

  pub case_stands : (at : ℕ) (word : List ℕ) (rooms texts : ℕ) → If Stands (length s) at (case_at s at word rooms texts)
  unfolding case_at
  case_stands at word rooms texts =
      then_if (PartIs (length s) at) (Stands (length s) at) (name_at s at word) _ (name_taken at word)
      (λ name f. then_if (Measured (length s) name.next) (Stands (length s) at) (three_at s name.next rooms 32) _ (three_on name.next rooms 32)
      (λ lent g. then_if (Measured (length s) lent.next) (Stands (length s) at) (three_at s lent.next texts 10) _ (three_on lent.next texts 10)
      (λ lengths h. then_if (TextsAre (length s) lengths.next) (Stands (length s) at) (texts_at s lengths.next lengths.value texts) _
      (texts_on lengths.next lengths.value texts)
      (λ stand k. let inside = h.1 (g.1 f.1.1) in
      record { name = f.0; texts = k.0 inside; next = (omega arith, k.1.1 inside) }))))

  -- of a case that was answered
  pub case_behind : (at : ℕ) (word : List ℕ) (rooms texts : ℕ) {r : Option Case} {c : Case} →
      r ≡ case_at s at word rooms texts → r ≡ Some c → Behind (length s) at c.next
  case_behind at word rooms texts e h = (subst (If Stands (length s) at) (sym e ∙ h) (case_stands at word rooms texts)).next
