-- `answer_line` meets its contract, by that of `report::run`.
use borrow.Author.Rules.{rules}
use Rattle.patch_tool.proofs.LineLaws.{line_is}
use Rattle.patch_tool.proofs.answer_line.Goals as goal

pub returns : goal.returns
returns c = line_is c.run.ensures (search rules) (search rules) (search rules)
