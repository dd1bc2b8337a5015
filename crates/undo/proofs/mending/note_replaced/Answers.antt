-- `note_replaced` meets its contract, by what the walk leads to.
use Rattle.undo.proofs.MendLaws.{replaced-noted, not_lost}
use Rattle.undo.proofs.mending.note_replaced.Goals as goal

pub returns-in_default : goal.returns-in_default
returns-in_default c used v d short ts p there os noted = not_lost _ c.walk.ensures c.in_default.is d short p there

pub returns : goal.returns
returns c = replaced-noted _ c.walk.ensures _
    c.in-Ok.is c.note.ensures
