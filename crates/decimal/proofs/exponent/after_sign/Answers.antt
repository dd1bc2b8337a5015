-- `after_sign` meets its contract, by the first byte.
use Rattle.std.specs.Prelude.{◌||◌}
use Prim.Native.Char.{code}
use borrow.Author.Tests.{eq-eqb, ne_eqb}
use lib.Dec.{eqb}
use mathlib.Core.Path.{◌≡◌, refl, sym, ◌∙◌}
use Rattle.decimal.proofs.ExponentLaws.{size_signed, size_unsigned, size_none}
use Rattle.decimal.proofs.exponent.after_sign.Goals.{then-b-eq45, else-b-eq45}
use Rattle.decimal.proofs.exponent.after_sign.Goals as goal

pub returns-in-Some : goal.returns-in-Some
returns-in-Some c =
    let b = c.in-Some.b.now in
    let tested : c.if-b-eq45.value ≡ (eqb b (code "-") || eqb b (code "+")) = elim c.if-b-eq45.branch [
      | then-b-eq45 w ↦ w.value-is ∙ rw (eq-eqb _ _ w.if-b-eq45.true) refl
      | else-b-eq45 w ↦ w.value-is ∙ rw (ne_eqb _ _ w.if-b-eq45.false) refl
    ] in
    size_signed b _ _ c.in-Some.ensures.cases.0 (sym tested ∙ c.if-b-eq43.true)

pub returns-in_default : goal.returns-in_default
returns-in_default c =
    let b = c.in-Some.b.now in
    let tested : c.if-b-eq45.value ≡ (eqb b (code "-") || eqb b (code "+")) = elim c.if-b-eq45.branch [
      | then-b-eq45 w ↦ w.value-is ∙ rw (eq-eqb _ _ w.if-b-eq45.true) refl
      | else-b-eq45 w ↦ w.value-is ∙ rw (ne_eqb _ _ w.if-b-eq45.false) refl
    ] in
    size_unsigned b _ _ c.in-Some.ensures.cases.0 (sym tested ∙ c.if-b-eq43.false)

pub returns-in_default-2 : goal.returns-in_default-2
returns-in_default-2 c = size_none _ (rw c.in_default.is at c.split_first.ensures.cases)
