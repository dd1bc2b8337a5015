-- `member` meets its contract, by that of the search among the rows behind.
use native.Mathlib.Omega.{arith}
use Rattle.shape.proofs.MemberLaws.{member_is, member-out}
use Rattle.shape.proofs.members.member.Goals as goal

pub returns-then-nodes-row : goal.returns-then-nodes-row
returns-then-nodes-row c = member-out (omega arith)

pub returns : goal.returns
returns c = member_is c.end_of-end.ensures c.find_ascii.ensures
