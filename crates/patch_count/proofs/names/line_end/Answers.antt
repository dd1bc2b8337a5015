-- `line_end` meets its contract: the first line feed ends the line.
use Rattle.patch_count.proofs.NameLaws.{line_end_is, line_end_inside}
use Rattle.patch_count.proofs.names.line_end.Goals as goal

pub returns-clause-line : goal.returns-clause-line
returns-clause-line c = line_end_is _ _ c.first.ensures

pub returns-clause-inside : goal.returns-clause-inside
returns-clause-inside c = line_end_inside _ _ c.first.ensures
