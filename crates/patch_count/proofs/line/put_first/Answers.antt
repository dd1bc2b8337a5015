-- `put_first` meets its contract: one piece behind another.
use Rattle.writer.proofs.PlacedLaws.{placed_then}
use Rattle.spec.specs.Bytes.{ascii}
use Rattle.patch_count.proofs.line.put_first.Goals as goal

pub returns : goal.returns
unfolding ascii
returns c = placed_then c.put_two_fields-put.ensures
    c.put_two_fields-more.ensures
