-- `enter_by_hash` meets its contract: the row is put where the path of its name ends, if the hash leads there.
use mathlib.Core.Path.{refl}
use native.Mathlib.Omega.{arith}
use Rattle.index.proofs.WayLaws.{not_by_hash, entered_by_hash}
use Rattle.index.proofs.ways.enter_by_hash.Goals as goal

pub returns-then-base-gt-SCRATCH : goal.returns-then-base-gt-SCRATCH
returns-then-base-gt-SCRATCH c = not_by_hash

pub returns-then-new-gt-ROOM : goal.returns-then-new-gt-ROOM
returns-then-new-gt-ROOM c = not_by_hash

pub descend_by_hash-requires : goal.descend_by_hash-requires
descend_by_hash-requires c = (omega arith, omega arith, omega arith, omega (arith, c.bucket-start.ensures))

pub returns-in_default : goal.returns-in_default
returns-in_default c = not_by_hash

pub returns : goal.returns
returns c =
    entered_by_hash refl c.bucket-start.ensures c.descend_by_hash.ensures c.in-Some.is c.set_slot.ensures
