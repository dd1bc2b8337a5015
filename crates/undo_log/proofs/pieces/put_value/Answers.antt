-- `put_value` meets its contract: its three pieces are laid down one behind another. Assumes nothing.
use Rattle.spec.specs.Bytes.{ascii}
use Rattle.undo_log.proofs.OperationLaws.{put-value-is}
use Rattle.undo_log.proofs.pieces.put_value.Goals as goal

pub returns : goal.returns
unfolding ascii
returns c =
    put-value-is c.put_part-put.ensures c.write-n.ensures c.put_byte-last.ensures
