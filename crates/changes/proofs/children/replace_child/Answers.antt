-- `replace_child` meets its contract.
use mathlib.Core.Path.{ap, ◌∙◌}
use Rattle.tape.specs.Fields.{name_of}
use Rattle.changes.proofs.ChangeLaws.{child-replaced}
use Rattle.changes.proofs.children.replace_child.Goals as goal

pub returns : goal.returns
returns c =
    child-replaced _ _ c.size-removed.ensures (c.name_of-name.ensures ∙ ap name_of c.load.ensures) c.put.ensures
