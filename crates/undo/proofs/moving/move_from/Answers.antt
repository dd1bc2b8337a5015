-- `move_from` meets its contract, by whether the value that is replaced holds the one that is moved.
use Rattle.undo.proofs.MoveLaws.{from_over, from-apart}
use Rattle.undo.proofs.moving.move_from.Goals as goal

pub returns-then-holds : goal.returns-then-holds
returns-then-holds c = from_over c.holds.ensures
    c.if-holds.true
    c.note_replaced-log.ensures c.plain.ensures

pub returns : goal.returns
returns c = from-apart c.holds.ensures
    c.if-holds.false
    c.note-log.ensures c.move_apart.ensures
