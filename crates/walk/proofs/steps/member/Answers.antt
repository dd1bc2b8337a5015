use Rattle.walk.proofs.StepLaws.{member-outside, member_is}
use Rattle.walk.proofs.steps.member.Goals as goal

pub returns-then-nodes-row : goal.returns-then-nodes-row
returns-then-nodes-row c = member-outside c.if-nodes-row.true

pub returns : goal.returns
returns c = member_is _ c.end_of.ensures _ c.find.ensures c.ok_or.ensures.value
