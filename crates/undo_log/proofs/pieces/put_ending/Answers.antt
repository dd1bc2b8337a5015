-- `put_ending` meets its contract, by the value that the action has. Assumes nothing.
use Rattle.undo_log.proofs.OperationLaws.{put-ending_value, put-ending_remove}
use Rattle.undo_log.proofs.pieces.put_ending.Goals as goal

pub returns-in-Add : goal.returns-in-Add
returns-in-Add c = put-ending_value c.in-Add.is c.put_value.ensures

pub returns-in-Remove : goal.returns-in-Remove
returns-in-Remove c = put-ending_remove c.in-Remove.is c.put_byte.ensures
