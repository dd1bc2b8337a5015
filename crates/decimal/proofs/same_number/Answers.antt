-- `decimal::same_number` meets its contract. Assumes nothing.
use mathlib.Core.Path.{sym, ◌∙◌}
use Rattle.decimal.proofs.MantissaLaws.{told}
use Rattle.decimal.proofs.NormalLaws.{is_over, is_number, over_left, over_right, both-within_limits}
use Rattle.decimal.proofs.same_number.Goals as goal

pub returns-in_default : goal.returns-in_default
returns-in_default c = over_left _ _ (is_over _ (told c.normalize.ensures c.in_default.is))

pub returns-in_default-normalize : goal.returns-in_default-normalize
returns-in_default-normalize c = over_right _ _ (is_over _ (told c.normalize-2.ensures c.in_default-normalize.is))

pub same_normal-requires : goal.same_normal-requires
same_normal-requires c = (
  (is_number _ _ (told c.normalize.ensures c.in-Some.is)).1,
  (is_number _ _ (told c.normalize-2.ensures c.in-Some-normalize.is)).1,
)

pub returns : goal.returns
returns c =
    c.same_normal.ensures
    ∙ sym (both-within_limits _ _
    (is_number _ _ (told c.normalize.ensures c.in-Some.is)).0
    (is_number _ _ (told c.normalize-2.ensures c.in-Some-normalize.is)).0)
