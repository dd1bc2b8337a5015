-- Two texts in step: at equal characters the texts are the same exactly if the rests are, and at different ones they are not.
use mathlib.Core.Path.{◌≡◌, refl, sym, ap, ap₂, ◌∙◌}
use mathlib.Core.Bool.{Bool, true, false, ◌&&◌}
use mathlib.Core.List.{[], ◌∷◌}
use Prim.Native.Nat.{ℕ, ◌+◌, ◌≤◌, ◌<◌}
use native.Mathlib.Omega.{arith}
use native.Mathlib.Numerals.{add-one}
use lib.ListN.{length, drop, get_or}
use lib.Seq.{drop-cons, drop-length}
use lib.Dec.{eqb}
use borrow.Author.Tests.{eq-eqb, ne_eqb, eqb-true, eqb-false}
use Rattle.spec.specs.Bytes.{Bytes, Text, byte, within}
use Rattle.spec.specs.Value.{same_text}
use Rattle.spec.proofs.TextLaws.{same_text_true, same_text_refl}
use Rattle.text.specs.Decode.{text_from, text_of}
use Rattle.text.specs.Letters.{is_letter, plain_at, Common, none, more}
use Rattle.text.proofs.LetterLaws.{plain_text, plain_inside, plain_byte, plain_is, letter_not_zero}

pub differ : (s t : Text) → (s ≡ t → ⊥) → false ≡ same_text s t
differ s t n = go (same_text s t) refl
  where
    go : (b : Bool) → same_text s t ≡ b → false ≡ b
    go true e = absurd (n (same_text_true s t e))
    go false e = refl

-- two texts by their first characters and their rests
module _ {s t u v : Text} {c d : ℕ} (e : s ≡ c ∷ u) (f : t ≡ d ∷ v) where
  heads : same_text s t ≡ (eqb c d && same_text u v)
  unfolding same_text
  heads = rw (e, f)

  pub heads_same : c ≡ d → same_text s t ≡ same_text u v
  heads_same h = heads ∙ rw (eq-eqb c d h)

  pub heads_differ : (c ≡ d → ⊥) → false ≡ same_text s t
  heads_differ h = sym (heads ∙ rw (ne_eqb c d h))

pub longer : {s t u : Text} {c : ℕ} → s ≡ c ∷ u → t ≡ [] → false ≡ same_text s t
unfolding same_text
longer e f = rw (e, f)

-- the elements of a list from one on
pub front : (l : Bytes) (i : ℕ) → i < length l → drop i l ≡ get_or l i 0 ∷ drop (i + 1) l
front l i h = rw (add-one, drop-cons l i 0)

-- a list from its end on
pub back : (l : Bytes) (i : ℕ) → i ≡ length l → drop i l ≡ []
back l i h = ap (λ n. drop n l) h ∙ drop-length l

pub both_end : {s t : Text} → s ≡ [] → t ≡ [] → same_text s t ≡ true
unfolding same_text
both_end e f = rw (e, f)

pub shorter : {s t u : Text} {c : ℕ} → s ≡ [] → t ≡ c ∷ u → same_text s t ≡ false
unfolding same_text
shorter e f = rw (e, f)

-- an ended text is what is left of another exactly if nothing is left
pub ended_same : {s : Text} (t : Text) {r whole : Bool} → s ≡ [] → r ≡ same_text [] t → same_text s t ≡ whole → r ≡ whole
ended_same t e f h = f ∙ ap (λ s. same_text s t) (sym e) ∙ h

-- two lists in step
module _ (a b : Bytes) (i : ℕ) (whole : Bool) (h : same_text (drop i a) (drop i b) ≡ whole) where
  pub bytes_differ : i < length a → i < length b → (get_or a i 0 ≡ get_or b i 0 → ⊥) → false ≡ whole
  bytes_differ l m n = heads_differ (front a i l) (front b i m) n ∙ h

  pub bytes_same : i < length a → i < length b → get_or a i 0 ≡ get_or b i 0 → same_text (drop (i + 1) a) (drop (i + 1) b) ≡ whole
  bytes_same l m e = sym (heads_same (front a i l) (front b i m) e) ∙ h

  pub bytes_end : i ≡ length a → i ≡ length b → true ≡ whole
  bytes_end l m = sym (both_end (back a i l) (back b i m)) ∙ h

-- an ended text is the rest of a list exactly if that has ended too
pub end_same : {s : Text} (l : Bytes) (j : ℕ) → j ≤ length l → s ≡ [] → eqb j (length l) ≡ same_text s (drop j l)
end_same {s} l j h e = go (eqb j (length l)) refl
  where
    go : (b : Bool) → eqb j (length l) ≡ b → b ≡ same_text s (drop j l)
    go true f = sym (both_end e (back l j (eqb-true j (length l) f)))
    go false f = sym (shorter e (front l j (omega (arith, eqb-false j (length l) f))))

-- the same bytes in the same form
pub same_parts : (form other : ℕ) (a b : Bytes) → form ≡ other → same_text a b ≡ true → true ≡ same_text (text_of form a) (text_of other b)
same_parts form other a b e h =
    let same : text_of form a ≡ text_of other b = ap₂ text_of e (same_text_true a b h) in
    rw same (sym (same_text_refl (text_of other b)))

-- ---- the bytes that two parts begin with in common

-- one byte more
module _ {form other : ℕ} {a b : Bytes} (known : within 1 3 form ≡ true) (too : within 1 3 other ≡ true) where
  pub common_more : {i : ℕ} → Common form a other b i → byte b i ≡ byte a i → is_letter (byte a i) ≡ true → Common form a other b (i + 1)
  common_more {i} r e t =
      let p = plain_byte form a i t known in
      let q = plain_byte other b i (ap is_letter e ∙ t) too in
      more r (λ z. letter_not_zero (byte a i) t (sym p ∙ z)) (p ∙ sym e ∙ sym q)

-- the texts are the same exactly if what is left of them is
pub common_texts : {form other : ℕ} {a b : Bytes} {n : ℕ} → Common form a other b n
    → same_text (text_from form a n) (text_from other b n) ≡ same_text (text_of form a) (text_of other b)
unfolding text_of
common_texts none = refl
common_texts {form} {other} {a} {b} (more {i} r n e) =
    sym (heads_same (plain_text form a i refl n) (plain_text other b i refl (λ z. n (e ∙ z))) e) ∙ common_texts r

-- the same for a word that is given by its bytes
pub common_word : {form : ℕ} {a l : Bytes} {n : ℕ} → Common form a 1 l n → (n ≤ length l) ×
    (same_text (text_from form a n) (drop n l) ≡ same_text (text_of form a) l)
unfolding text_of byte
common_word none = (omega arith, refl)
common_word {form} {a} {l} (more {i} r n e) =
    let m : plain_at 1 l i ≡ 0 → ⊥ = λ z. n (e ∙ z) in
    let h = plain_inside 1 l i refl m in
    (omega arith, sym (heads_same (plain_text form a i refl n) (front l i h) (e ∙ plain_is 1 l i m)) ∙ (common_word r).1)
