-- `compared` meets its contract: the places are noted and the members indexed, so that the count is the definition's.
use Rattle.compare.proofs.StageLaws.{values-compared}
use Rattle.compare.proofs.stages.compared.Goals as goal

pub returns : goal.returns
returns c = values-compared c.note_places.ensures c.index_tree.ensures c.counted.ensures
