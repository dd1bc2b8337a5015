-- `tape::fields::node_of` meets its contract. Assumes nothing.
use Rattle.tape.proofs.fields.node_of.Goals as goal

pub returns : goal.returns
returns c = rw (c.narrow.ensures, c.tags_of.ensures)
