-- Labels by their kinds: those of different kinds differ, and two of one kind are compared by their contents.
use Prim.Native.Nat.{ℕ, zero, suc, ◌≤◌}
use native.Mathlib.Omega.{arith}
use mathlib.Core.Path.{◌≡◌, refl, sym, ap, ap₂, ◌∙◌}
use mathlib.Core.Bool.{Bool, true, false}
use lib.Dec.{eqb}
use borrow.Author.Tests.{ne_eqb, eqb-true}
use Rattle.spec.specs.Bytes.{Bytes}
use Rattle.spec.specs.Worth.{worth}
use Rattle.spec.specs.Value.{Label, tag, is_number, content, same_text}
use Rattle.spec.specs.Equality.{same_worth, same_label}
use Rattle.spec.proofs.TextLaws.{both_true}
use Rattle.decimal.specs.Normal.{same_number}
use Rattle.decimal.proofs.NormalLaws.{both-within_limits}
use Rattle.tape.specs.Layout.{number_kind, string_kind, object_kind}
use Rattle.tape.specs.Fields.{Row, kind_of, value_of}
use Rattle.tape.specs.declared.fields.Spelling.{Spelling}
use Rattle.table.specs.Meaning.{part_of, spelled, label_of}
use Rattle.table.proofs.MeaningLaws.{tag_label}
use Rattle.equality.specs.Compare.{SameLabelIs}
use Rattle.tape.specs.Lent.{Texts}

-- two labels that are the same have one tag
pub same_label-tag : (l m : Label) → same_label l m ≡ true → tag l ≡ tag m
unfolding same_label
same_label-tag l m h = eqb-true (tag l) (tag m) (both_true (eqb (tag l) (tag m)) _ h).0

module _ (T : Texts) where
  differ : (k l : ℕ) (m n : Spelling) → k ≤ object_kind → l ≤ object_kind → (k ≡ l → ⊥) → same_label (label_of T k m) (label_of T l n) ≡ false
  unfolding same_label
  differ k l m n hk hl d = rw (tag_label T k m hk, tag_label T l n hl, ne_eqb k l d)

  numbers : (k l : ℕ) (m n : Spelling) → k ≡ number_kind → l ≡ number_kind
      → same_label (label_of T k m) (label_of T l n) ≡ same_worth (worth (part_of T m)) (worth (part_of T n))
  unfolding same_label label_of tag is_number content
  numbers k l m n e f = rw (e, f)

  strings : (k l : ℕ) (m n : Spelling) → k ≡ string_kind → l ≡ string_kind
      → same_label (label_of T k m) (label_of T l n) ≡ same_text (spelled T m) (spelled T n)
  unfolding same_label label_of tag is_number content
  strings k l m n e f = rw (e, f)

  others : (k : ℕ) (m n : Spelling) → k ≤ object_kind → (k ≡ number_kind → ⊥) → (k ≡ string_kind → ⊥) → same_label (label_of T k m) (label_of T k n) ≡ true
  unfolding same_label label_of tag is_number content same_text
  others zero m n h a b = refl
  others (suc zero) m n h a b = refl
  others (suc (suc zero)) m n h a b = refl
  others (suc (suc (suc zero))) m n h a b = absurd (a refl)
  others (suc (suc (suc (suc zero)))) m n h a b = absurd (b refl)
  others (suc (suc (suc (suc (suc zero))))) m n h a b = refl
  others (suc (suc (suc (suc (suc (suc zero)))))) m n h a b = refl
  others (suc (suc (suc (suc (suc (suc (suc k))))))) m n h a b = absurd (omega arith)

-- ---- each way out of `same_label`; k and l are the kinds that the code reads off the rows
module _ {T : Texts} {a b : Row} (k l : ℕ) (kind-a : k ≡ kind_of a) (kind-b : l ≡ kind_of b) where
  pub labels_differ : (k ≡ l → ⊥) → SameLabelIs T a b false
  labels_differ d x y = sym (differ T _ _ _ _ x.kind y.kind (λ e. d (kind-a ∙ e ∙ sym kind-b)))

  module _ (same : k ≡ l) where
    pub labels_other : (k ≡ number_kind → ⊥) → (k ≡ string_kind → ⊥) → SameLabelIs T a b true
    labels_other n s x y =
        let e : kind_of b ≡ kind_of a = sym kind-b ∙ sym same ∙ kind-a in
        let alike = others T (kind_of a) (value_of a) (value_of b) x.kind (λ z. n (kind-a ∙ z)) (λ z. s (kind-a ∙ z)) in
        sym (ap (λ j. same_label (label_of T (kind_of a) (value_of a)) (label_of T j (value_of b))) e ∙ alike)

    -- their texts
    module _ (m n : Spelling) (value-a : m ≡ value_of a) (value-b : n ≡ value_of b) where
      pub labels-number : k ≡ number_kind → (s t : Bytes) → s ≡ part_of T m → t ≡ part_of T n → (r : Bool) → r ≡ same_number s t
          → SameLabelIs T a b r
      labels-number number s t part-a part-b r h x y =
          let ka : kind_of a ≡ number_kind = sym kind-a ∙ number in
          let kb : kind_of b ≡ number_kind = sym kind-b ∙ sym same ∙ number in
          let parts : same_number s t ≡ same_number (part_of T (value_of a)) (part_of T (value_of b)) =
          ap₂ same_number (part-a ∙ ap (part_of T) value-a) (part-b ∙ ap (part_of T) value-b) in
          h ∙ parts ∙ both-within_limits _ _ (x.fits.is ka) (y.fits.is kb) ∙ sym (numbers T _ _ _ _ ka kb)

      pub labels-string : k ≡ string_kind → (r : Bool) → r ≡ same_text (spelled T m) (spelled T n) → SameLabelIs T a b r
      labels-string string r h x y =
          h ∙ ap₂ (λ i j. same_text (spelled T i) (spelled T j)) value-a value-b
          ∙ sym (strings T _ _ _ _ (sym kind-a ∙ string) (sym kind-b ∙ sym same ∙ string))
