-- `decimal::same_normal` meets its contract. Assumes nothing.
use mathlib.Core.Path.{sym, ◌∙◌}
use native.Mathlib.Omega.{arith}
use borrow.Author.Tests.{eq-eqb, ne_eqb}
use Rattle.decimal.proofs.IntegerLaws.{same_integer_lem}
use Rattle.decimal.proofs.NormalLaws.{signs_differ, signs_same, sign-differs, power_differs, count_differs, digits_decide, enough_left, enough_right}
use Rattle.decimal.proofs.same_normal.Goals.{then-x-y-via-then-x-y, then-x-y-via-else-x-y+then-x-y-2, then-x-y-via-else-x-y+else-x-y-2+then-x-y-3}
use Rattle.decimal.proofs.same_normal.Goals as goal

pub returns-then-x-y : goal.returns-then-x-y
returns-then-x-y c = elim c.then-x-y.branch [
  | then-x-y-via-then-x-y w ↦ sign-differs _ _ _ _ c.requires.0 c.requires.1 (signs_differ _ _ w.if-x-y.true)
  | then-x-y-via-else-x-y+then-x-y-2 w ↦ power_differs _ _ _ _ c.requires.0 c.requires.1
      (sym (same_integer_lem c.args.x.power c.args.y.power (record { sfits = omega arith }) (record { sfits = omega arith })) ∙ ne_eqb _ _ w.if-x-y-2.true)
  | then-x-y-via-else-x-y+else-x-y-2+then-x-y-3 w ↦ count_differs _ _ _ _ c.requires.0 c.requires.1 w.if-x-y-3.true
]

pub same_digits-requires : goal.same_digits-requires
same_digits-requires c =
    (enough_left _ _ _ _ c.requires.0 c.requires.1, enough_right _ _ _ _ c.requires.0 c.requires.1 c.if-x-y-3.false)

pub returns : goal.returns
returns c =
    digits_decide _ _ _ _ c.requires.0 c.requires.1 _
    (signs_same _ _ c.if-x-y.false)
    (sym (same_integer_lem c.args.x.power c.args.y.power (record { sfits = omega arith }) (record { sfits = omega arith })) ∙ eq-eqb _ _ c.if-x-y-2.false)
    c.if-x-y-3.false
    c.same_digits.ensures
