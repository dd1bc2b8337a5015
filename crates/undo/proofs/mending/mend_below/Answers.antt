-- `mend_below` meets its contract, by what the walk to the parent leads to.
use Rattle.reversal.specs.Undo.{mended}
use Rattle.undo.proofs.MendLaws.{not_lost}
use Rattle.undo.proofs.SiteLaws.{parent_path, parent_present, site_there}
use Rattle.undo.proofs.mending.mend_below.Goals as goal

pub returns-in_default : goal.returns-in_default
unfolding mended
returns-in_default c used v d short t ts p there os noted = not_lost _ c.walk.ensures c.in_default.is d short (parent_path d short p _
    c.part-pointer.ensures c.last_slash-cut.ensures _
    c.shortened.ensures)
    (parent_present d short p _ c.part-pointer.ensures c.last_slash-cut.ensures there)

pub returns : goal.returns
unfolding mended
returns c used v d short t ts p there os noted = c.mend_child.ensures t ts _
    (site_there d short p _ c.part-pointer.ensures
    c.last_slash-cut.ensures _
    c.shortened.ensures
    c.walk.ensures
    c.in-Ok.is
    c.token.ensures c.token_name.ensures there) tt os noted
