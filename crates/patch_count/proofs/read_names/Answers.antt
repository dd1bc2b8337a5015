-- `read_names` meets its contract: at the start there is no file.
use borrow.Author.Rules.{rules}
use Rattle.patch_count.proofs.SumLaws.{sums_none}
use Rattle.patch_count.proofs.read_names.Goals as goal

pub loop-init : goal.loop-init
loop-init g c = (search rules, search rules, sums_none c.nothing.ensures)
