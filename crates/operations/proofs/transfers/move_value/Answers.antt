-- `move_value` meets its contract, by how the pointer begins.
use Rattle.operations.proofs.TransferLaws.{move_root, move_at, move_malformed}
use Rattle.operations.proofs.transfers.move_value.Goals as goal

pub returns-in-Root : goal.returns-in-Root
returns-in-Root c = move_root _ c.part.ensures _ c.first.ensures c.in-Root.is

pub returns-in-At : goal.returns-in-At
returns-in-At c = move_at _ c.part.ensures _ c.first.ensures _
    c.in-At.is c.move_below.ensures

pub returns-in-Malformed : goal.returns-in-Malformed
returns-in-Malformed c = move_malformed _ c.part.ensures _ c.first.ensures c.in-Malformed.is
