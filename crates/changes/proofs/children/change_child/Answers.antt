-- `change_child` meets its contract.
use Rattle.changes.proofs.ChangeLaws.{changed_add, changed_remove, changed_replace}
use Rattle.changes.proofs.children.change_child.Goals as goal

pub returns-in-Add : goal.returns-in-Add
returns-in-Add c = changed_add _ _ c.in-Add.is c.add.ensures

pub returns-in-Remove : goal.returns-in-Remove
returns-in-Remove c = changed_remove _ c.in-Remove.is c.remove.ensures

pub returns-in-Replace : goal.returns-in-Replace
returns-in-Replace c = changed_replace _ _ c.in-Replace.is c.replace.ensures
