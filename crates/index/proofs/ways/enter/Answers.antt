-- `enter` meets its contract: nothing is done where the numbers do not fit; otherwise the row is put where the path of its name ends.
use mathlib.Core.Path.{refl}
use native.Mathlib.Omega.{arith}
use Rattle.index.proofs.WayLaws.{not_entered, entered}
use Rattle.index.proofs.ways.enter.Goals as goal

pub returns-then-base-gt-SCRATCH : goal.returns-then-base-gt-SCRATCH
returns-then-base-gt-SCRATCH c = not_entered _ _ _ _ _ _ (λ h. omega (arith, c.then-base-gt-SCRATCH.either))

pub returns-then-new-gt-ROOM : goal.returns-then-new-gt-ROOM
returns-then-new-gt-ROOM c = not_entered _ _ _ _ _ _ (λ h. omega arith)

pub descend-ending-requires : goal.descend-ending-requires
descend-ending-requires c = (omega arith, omega arith, omega arith, omega (arith, c.bucket-start.ensures))

pub returns : goal.returns
returns c =
    entered _ _ _ _ _ _ _ refl c.bucket-start.ensures c.descend-ending.ensures c.set_slot.ensures
