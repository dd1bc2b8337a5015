-- `take_out` meets its contract.
use Rattle.changes.proofs.PutLaws.{take_made}
use Rattle.changes.proofs.trees.take_out.Goals as goal

pub returns : goal.returns
returns c =
    take_made c.args.parent c.args.at _ _ c.size-removed.ensures c.saturating_sub-left.ensures c.splice.ensures
    c.resize.ensures
