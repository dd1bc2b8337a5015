-- `one_refused` meets its contract.
use Rattle.patch_count.proofs.SumLaws.{refused_adds}
use Rattle.patch_count.proofs.tally.one_refused.Goals as goal

pub returns : goal.returns
returns c = refused_adds _ _ _
