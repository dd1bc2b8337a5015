-- `note_before` meets its contract, by the kind.
use Rattle.undo.proofs.StepLaws.{before_put, before_remove, before_replace, before_none}
use Rattle.undo.proofs.steps.note_before.Goals as goal

pub returns-in-Add : goal.returns-in-Add
returns-in-Add c = before_put c.in-Add.is c.mend.ensures

pub returns-in-Remove : goal.returns-in-Remove
returns-in-Remove c = before_remove c.in-Remove.is c.note_removed.ensures

pub returns-in-Replace : goal.returns-in-Replace
returns-in-Replace c = before_replace c.in-Replace.is c.note_replaced.ensures

pub returns-in-Move : goal.returns-in-Move
returns-in-Move c = before_none c.in-Move.is
