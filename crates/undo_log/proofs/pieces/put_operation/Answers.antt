-- `put_operation` meets its contract: its three pieces are laid down one behind another. Assumes nothing.
use Rattle.undo_log.proofs.OperationLaws.{put_note}
use Rattle.undo_log.proofs.pieces.put_operation.Goals as goal

pub returns : goal.returns
returns c o k =
    put_note _ _ _ o c.put_head-put.ensures c.put_path-n.ensures (c.put_ending-last.ensures.held o k)
