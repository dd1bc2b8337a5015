-- `buffer` meets its contract. The list is too long to compute, so the law on its length is cited.
use Rattle.cases.proofs.TakingLaws.{zeros-counted}
use Rattle.cases.proofs.file.buffer.Goals as goal

pub returns : goal.returns
returns c = zeros-counted 1_048_576
