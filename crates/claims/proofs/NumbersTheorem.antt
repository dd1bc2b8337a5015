-- Two number texts have the same worth exactly where they have the same exact value.
use mathlib.Core.Path.{◌≡◌, ap, sym, ◌∙◌}
use mathlib.Core.Logic.{◌↔◌}
use mathlib.Core.Bool.{true, ◌&&◌}
use Prim.Native.Nat.{ℕ, ◌*◌, ◌^◌}
use lib.Dec.{ltb}
use lib.IntN.{pos, ◌*ℤ◌, zero-*ℤ}
use Rattle.spec.specs.Bytes.{Bytes}
use Rattle.spec.specs.Worth.{worth, mantissa, fraction_digits, decimal, exponent, is_negative}
use Rattle.spec.specs.Equality.{same_worth}
use Rattle.claims.specs.Numbers.{Exact, with_sign, Writes, above, SameNumber, NumbersStatement}
use Rattle.claims.proofs.LabelLaws.{same_worth_true, same_worth_refl, worth_path}
use Rattle.claims.proofs.Normal.{Normal, normal, equal-value, zero_digits}
use Rattle.claims.proofs.Scaling.{sign-scaled, same_signed, zero_scaled}
use Rattle.claims.proofs.Valued.{writes_valued, valued_writes}
use Rattle.claims.proofs.NumberParts.{Found, worth_finds}
use Rattle.claims.proofs.NumberRead.{number-valued}
use Rattle.claims.proofs.NumberText.{text-number}

worth_normal : (t : Bytes) (x : Exact) → Found t x → Normal (decimal 0 (mantissa t)) x.power (worth t).significand (worth t).power
unfolding worth
worth_normal t x f = rw (← f.power) (normal (mantissa t) (exponent t) (fraction_digits t) f.digits)

-- the integer of the digits, scaled
abbrev size : Bytes → ℕ → ℕ
size t k = decimal 0 (mantissa t) * 10 ^ k

scaled : (t : Bytes) (x : Exact) (k : ℕ) → Found t x → x.integer *ℤ pos (10 ^ k) ≡ with_sign (is_negative t) (size t k)
scaled t x k f = ap (λ z. z *ℤ pos (10 ^ k)) f.integer ∙ sign-scaled (is_negative t) (decimal 0 (mantissa t)) (10 ^ k)

worth_negative : (t : Bytes) (x : Exact) (k : ℕ) → Found t x → (worth t).negative ≡ (is_negative t && ltb 0 (size t k))
unfolding worth
worth_negative t x k f = ap (λ z. is_negative t && z) (sym (zero_digits k (worth_normal t x f)))

by_value : (s t : Bytes) (x y : Exact) → Writes s x → Writes t y → (same_worth (worth s) (worth t) ≡ true) ↔ SameNumber x y
by_value s t x y v w =
    let f = worth_finds (writes_valued v) in
    let g = worth_finds (writes_valued w) in
    let a = above x.power y.power in
    let b = above y.power x.power in
    let sizes = equal-value (worth_normal s x f) (worth_normal t y g) in
    let integers = same_signed (is_negative s) (is_negative t) (size s a) (size t b) in
    let m = worth_negative s x a f in
    let n = worth_negative t y b g in (
      λ h.
          let same = same_worth_true (worth s) (worth t) h in
          let size = sizes.0 (ap (λ u. u.significand) same, ap (λ u. u.power) same) in
          record { value = scaled s x a f ∙ integers.0 (size, sym m ∙ ap (λ u. u.negative) same ∙ n) ∙ sym (scaled t y b g) },
      λ h.
          let parts = integers.1 (sym (scaled s x a f) ∙ h.value ∙ scaled t y b g) in
          let digits = sizes.1 parts.0 in
          let same = worth_path (worth s) (worth t) (m ∙ parts.1 ∙ sym n) digits.0 digits.1 in
          ap (same_worth (worth s)) (sym same) ∙ same_worth_refl (worth s),
    )

-- what is the same number as a zero is a zero
zero_same : {x y : Exact} → SameNumber x y → x.integer ≡ pos 0 → y.integer ≡ pos 0
zero_same {x} {y} h z =
    let ten = pos (10 ^ above x.power y.power) in
    zero_scaled y.integer (above y.power x.power) (sym h.value ∙ ap (λ w. w *ℤ ten) z ∙ zero-*ℤ ten)

same_zero : {x y : Exact} → x.integer ≡ pos 0 → y.integer ≡ pos 0 → SameNumber x y
same_zero z w = record { value = rw (z, w, zero-*ℤ, zero-*ℤ) }

pub numbers : NumbersStatement
numbers =
    record {
      valued = λ t h. let (x, v) = number-valued t (text-number t h) in (x, valued_writes v);
      one_value = λ t x y v w. (by_value t t x y v w).0 (same_worth_refl (worth t));
      by_value = by_value;
      zeros = λ s t x y v w z. let e = by_value s t x y v w in (λ h. zero_same (e.0 h) z, λ h. e.1 (same_zero z h));
    }
