-- `part` meets its contract: of a part that begins past the end of its text nothing is left, of one that runs past the end what there is.
use Rattle.tape.specs.Lent.{both}
use Rattle.table.proofs.Parts.{part_cut}
use Rattle.table.proofs.spellings.part.Goals as goal

pub returns : goal.returns
returns c =
    part_cut (both c.args.texts) c.args.spelling _ _ _ _ _ c.text_of-s.ensures c.wide.ensures.0 c.wide-2.ensures.0 c.min-first.ensures c.min-end.ensures
