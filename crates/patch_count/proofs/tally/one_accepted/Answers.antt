-- `one_accepted` meets its contract.
use native.Mathlib.Omega.{arith}
use Rattle.patch_count.proofs.SumLaws.{accepted_adds}
use Rattle.patch_count.proofs.tally.one_accepted.Goals as goal

pub sums-counts-requires : goal.sums-counts-requires
sums-counts-requires c = omega (arith, c.requires.room.few, c.requires.c_bound)

pub returns : goal.returns
returns c = accepted_adds _ _ _ _ _ c.sums-counts.ensures
