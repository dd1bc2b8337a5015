use mathlib.Core.Path.{refl, sym, ap, ◌∙◌}
use native.Mathlib.Omega.{arith}
use lib.ListN.{length}
use mathlib.Core.List.{[], ◌∷◌}
use Rattle.text.proofs.StoreLaws.{stored}
use Rattle.fragment.proofs.WritingLaws.{encoded-kept, encoded_percent, percent_stored}
use Rattle.fragment.proofs.writing.put_octet.Goals as goal

pub is_kept-requires : goal.is_kept-requires
is_kept-requires c = c.requires.1

pub overflow_add-result : goal.overflow_add-result
overflow_add-result c =
    omega (arith, ap length (encoded-kept _ (sym c.is_kept.ensures ∙ c.if-is_kept.true)), c.requires.0)

pub returns-then-is_kept : goal.returns-then-is_kept
returns-then-is_kept c =
    stored (_ ∷ []) (encoded-kept _ (sym c.is_kept.ensures ∙ c.if-is_kept.true)) c.put.ensures refl

pub overflow_add-at : goal.overflow_add-at
overflow_add-at c =
    omega (arith, ap length (encoded_percent _ (sym c.is_kept.ensures ∙ c.if-is_kept.false)), c.requires.0)

pub overflow_add-at-2 : goal.overflow_add-at-2
overflow_add-at-2 c =
    omega (arith, ap length (encoded_percent _ (sym c.is_kept.ensures ∙ c.if-is_kept.false)), c.requires.0)

pub overflow_add-result-2 : goal.overflow_add-result-2
overflow_add-result-2 c =
    omega (arith, ap length (encoded_percent _ (sym c.is_kept.ensures ∙ c.if-is_kept.false)), c.requires.0)

pub returns : goal.returns
returns c =
    percent_stored _ _ (sym c.is_kept.ensures ∙ c.if-is_kept.false) c.hex_digit.ensures c.hex_digit-2.ensures c.put-2.ensures c.put-3.ensures c.put-4.ensures
