-- `put_path` meets its contract: its three pieces are laid down one behind another. Assumes nothing.
use Rattle.writer.proofs.PlacedLaws.{placed_as, placed_then}
use Rattle.undo_log.proofs.OperationLaws.{string-written}
use Rattle.undo_log.proofs.pieces.put_path.Goals as goal

pub returns : goal.returns
returns c =
    placed_as (string-written _) (placed_then (placed_then c.put_byte-put.ensures c.put_target-n.ensures) c.put_byte-last.ensures)
