-- `tape::fields::name_of` meets its contract. Assumes nothing.
use Rattle.tape.proofs.fields.name_of.Goals as goal

pub returns : goal.returns
returns c = rw (c.name_form_in.ensures, c.name_source_in.ensures)
