-- `members_right` meets its contract, by the text of `path` and then by the others.
use Rattle.shape.proofs.MemberLaws.{string-is}
use Rattle.shape.proofs.AnswerLaws.{members-no_path, members-others}
use Rattle.shape.proofs.operation.members_right.Goals as goal

pub returns-in_default : goal.returns-in_default
returns-in_default c = λ row found. members-no_path (string-is found.path c.string_in.ensures) c.in_default.is

pub returns : goal.returns
returns c = λ row found. members-others (string-is found.path c.string_in.ensures) _ c.in-Some.is (c.others_in.ensures row found)
