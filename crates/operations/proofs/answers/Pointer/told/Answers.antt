-- `told` meets its contract.
use borrow.Author.Rules.{rules}
use Rattle.operations.specs.Answers.{told_at}
use Rattle.operations.proofs.answers.Pointer.told.Goals as goal

pub returns : goal.returns
unfolding told_at
returns g c = search rules
