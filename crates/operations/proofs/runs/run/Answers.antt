-- `run` meets its contract, by its elements.
use Rattle.operations.proofs.RunLaws.{run-patch}
use Rattle.operations.proofs.runs.run.Goals as goal

pub returns : goal.returns
returns c = run-patch _ c.end_of-end.ensures c.elements.ensures
