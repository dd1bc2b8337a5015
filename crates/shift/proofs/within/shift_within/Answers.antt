-- `shift_within` meets its contract, by what the two pointers name.
use mathlib.Core.Path.{refl}
use Rattle.shift.specs.Shift.{kept}
use Rattle.shift.proofs.SiblingLaws.{siblings_shift}
use Rattle.shift.proofs.within.shift_within.Goals as goal

pub returns-then-used-gt-MAX_NODES : goal.returns-then-used-gt-MAX_NODES
returns-then-used-gt-MAX_NODES c = kept refl

pub returns-then-not-ends_in_digit : goal.returns-then-not-ends_in_digit
returns-then-not-ends_in_digit c = kept refl

pub returns-in_default : goal.returns-in_default
returns-in_default c = kept refl

pub returns-in_default-first : goal.returns-in_default-first
returns-in_default-first c = kept refl

pub returns-in_default-siblings : goal.returns-in_default-siblings
returns-in_default-siblings c = kept refl

pub returns : goal.returns
returns c =
    siblings_shift _ _ c.part-a.ensures c.part-b.ensures _ _ c.first.ensures c.first-2.ensures _ _
    c.in-At.is c.in-At-first.is _ c.siblings.ensures c.in-Some.is c.shift.ensures
