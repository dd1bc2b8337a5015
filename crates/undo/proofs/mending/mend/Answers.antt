-- `mend` meets its contract, by how the pointer begins.
use Rattle.walk.proofs.PathLaws.{first_of}
use Rattle.undo.proofs.MendLaws.{root_noted, below_noted, malformed_noted}
use Rattle.undo.proofs.mending.mend.Goals as goal

pub returns-in-Root : goal.returns-in-Root
returns-in-Root c = root_noted _ (first_of _ c.part.ensures
    c.first.ensures) c.in-Root.is
    c.note.ensures

pub returns-in-At : goal.returns-in-At
returns-in-At c = below_noted _ (first_of _ c.part.ensures
    c.first.ensures) _ c.in-At.is
    c.mend_below.ensures

pub returns-in-Malformed : goal.returns-in-Malformed
returns-in-Malformed c = malformed_noted _ (first_of _ c.part.ensures c.first.ensures) c.in-Malformed.is
