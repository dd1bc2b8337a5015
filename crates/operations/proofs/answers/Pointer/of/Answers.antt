-- `of` meets its contract: two refusals have a pointer.
use borrow.Author.Rules.{rules}
use Rattle.operations.specs.Answers.{pointer_for}
use Rattle.operations.proofs.answers.Pointer.of.Goals as goal

pub returns-in-LocationMissing : goal.returns-in-LocationMissing
unfolding pointer_for
returns-in-LocationMissing c = search rules

pub returns-in_default : goal.returns-in_default
unfolding pointer_for
returns-in_default c = search rules
