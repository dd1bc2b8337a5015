-- `put_target` meets its contract, by the target's kind. Assumes nothing.
use Rattle.writer.proofs.PlacedLaws.{placed_as}
use Rattle.undo_log.proofs.OperationLaws.{target_at, target_appended}
use Rattle.undo_log.proofs.pieces.put_target.Goals as goal

pub returns-in-At : goal.returns-in-At
returns-in-At c =
    placed_as (target_at _ _ c.in-At.is c.part.ensures) c.put_part.ensures

pub returns-in-Appended : goal.returns-in-Appended
returns-in-Appended c =
    placed_as (target_appended _ _ c.in-Appended.is c.part-in-Appended.ensures) c.put_appended.ensures
