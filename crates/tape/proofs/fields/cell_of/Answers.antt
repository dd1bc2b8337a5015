-- `tape::fields::cell_of` meets its contract. Assumes nothing.
use Rattle.tape.proofs.fields.cell_of.Goals as goal

pub returns : goal.returns
returns c = rw (c.kind_in.ensures, c.value_of.ensures, c.name_of.ensures)
