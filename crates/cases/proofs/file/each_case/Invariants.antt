-- `each_case` ends: each case ends behind its beginning.
use Rattle.std.proofs.Common.{length, ◌-◌}
use Rattle.cases.proofs.file.each_case.Given as goal

abbrev pub decreases-loop-at : goal.decreases-loop-at
decreases-loop-at g l = length l.file - l.at
