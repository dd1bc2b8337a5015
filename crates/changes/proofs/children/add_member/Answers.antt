-- `add_member` meets its contract.
use Rattle.changes.proofs.ChangeLaws.{member-replaced, member-added}
use Rattle.changes.proofs.children.add_member.Goals as goal

pub returns-in-Some : goal.returns-in-Some
returns-in-Some c =
    member-replaced _ c.end_of-end.ensures _ c.find.ensures _ c.in-Some.is c.replace_child.ensures

pub returns-in-None : goal.returns-in-None
returns-in-None c =
    member-added _ c.end_of-end.ensures _ c.find.ensures c.in-None.is c.put.ensures
