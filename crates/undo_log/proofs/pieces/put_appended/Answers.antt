-- `put_appended` meets its contract: the digits are laid down behind the pointer. Assumes nothing.
use Rattle.writer.proofs.PlacedLaws.{placed_as, placed_then}
use Rattle.undo_log.proofs.OperationLaws.{appended-written}
use Rattle.undo_log.proofs.pieces.put_appended.Goals as goal

pub returns : goal.returns
returns c =
    placed_as (appended-written _ _) (placed_then c.put_part-put.ensures c.put_digits-last.ensures)
