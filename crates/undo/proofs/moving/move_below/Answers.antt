-- `move_below` meets its contract, by what the walk leads to.
use Rattle.undo.proofs.MoveLaws.{below_lost, below_found}
use Rattle.undo.proofs.moving.move_below.Goals as goal

pub returns-in_default : goal.returns-in_default
returns-in_default c = below_lost _ c.walk.ensures
    c.in_default.is c.plain.ensures

pub returns : goal.returns
returns c = below_found _ c.walk.ensures _
    c.in-Ok.is
    c.move_from.ensures
