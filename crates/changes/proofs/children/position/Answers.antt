-- `position` meets its contract.
use native.Mathlib.Omega.{arith}
use Rattle.changes.proofs.ChangeLaws.{position_at, position_greater, position_end}
use Rattle.changes.proofs.children.position.Goals as goal

pub returns-in-Ok : goal.returns-in-Ok
returns-in-Ok c = position_at _ _ c.child.ensures _ c.in-Ok.is

pub returns-then-n-k : goal.returns-then-n-k
returns-then-n-k c = position_greater _ _ c.child.ensures _ c.in-Err.is (omega arith)

pub returns-else-n-k : goal.returns-else-n-k
returns-else-n-k c =
    position_end _ _ c.child.ensures _ c.in-Err.is (omega arith) _ c.end_of.ensures
