-- `run` meets its contract, by its elements.
use Rattle.undo.proofs.RunLaws.{logged_patch}
use Rattle.undo.proofs.runs.run.Goals as goal

pub returns : goal.returns
returns c = logged_patch _ c.end_of-end.ensures
    c.elements.ensures
