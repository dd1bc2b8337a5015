-- `tape::fields::value_of` meets its contract. Assumes nothing.
use Rattle.tape.proofs.fields.value_of.Goals as goal

pub returns : goal.returns
returns c = rw (c.form_in.ensures, c.source_in.ensures)
