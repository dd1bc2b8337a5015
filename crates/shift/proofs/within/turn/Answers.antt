-- `turn` meets its contract, by which of the two rows is before the other.
use native.Mathlib.Omega.{arith}
use mathlib.Core.Path.{refl}
use Rattle.shift.specs.Shift.{turned_front, not_turned}
use Rattle.shift.proofs.ShiftLaws.{back_is}
use Rattle.shift.proofs.within.turn.Goals as goal

pub returns-then-used-at : goal.returns-then-used-at
returns-then-used-at c = not_turned refl

pub returns-then-used-at-2 : goal.returns-then-used-at-2
returns-then-used-at-2 c = not_turned refl

pub returns-then-to-at : goal.returns-then-to-at
returns-then-to-at c =
    turned_front _ c.size-count.ensures c.if-to-at.true (omega (arith, c.if-used-at.false, c.if-used-at-2.false))
    c.exchange_front.ensures

pub returns-then-used-end : goal.returns-then-used-end
returns-then-used-end c = not_turned refl

pub returns-then-end-at : goal.returns-then-end-at
returns-then-end-at c = not_turned refl

pub returns : goal.returns
returns c =
    back_is _ _ c.size-count.ensures (omega (arith, c.if-to-at.false)) c.end_of-end.ensures (omega (arith, c.if-used-end.false))
    (omega (arith, c.if-end-at.false)) c.exchange_back.ensures
