-- `put_line` meets its contract: one piece behind another.
use Rattle.writer.proofs.PlacedLaws.{placed_then}
use Rattle.patch_count.proofs.line.put_line.Goals as goal

pub returns : goal.returns
returns c = placed_then (placed_then c.put_first-put.ensures
    c.put_second-n.ensures) c.put_last-last.ensures
