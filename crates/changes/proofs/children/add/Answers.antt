-- `add` meets its contract.
use native.Mathlib.Omega.{arith}
use Rattle.changes.proofs.ChangeLaws.{add-array, add-object, add_scalar}
use Rattle.changes.proofs.children.add.Goals as goal

pub returns-in-5 : goal.returns-in-5
returns-in-5 c = add-array _ c.kind.ensures c.in-5.is c.add_element.ensures

pub returns-in-6 : goal.returns-in-6
returns-in-6 c = add-object _ c.kind.ensures c.in-6.is c.add_member.ensures

pub returns-in_default : goal.returns-in_default
returns-in_default c = rw c.at.ensures (add_scalar _ c.kind.ensures (λ e. omega arith) (λ e. omega arith) _ c.walked.ensures)
