-- `string_member` meets its contract, by the member.
use Rattle.shape.proofs.MemberLaws.{string-is}
use Rattle.shape.proofs.members.string_member.Goals as goal

pub returns : goal.returns
returns c = string-is c.member.ensures c.string_in.ensures
