-- `told` meets its contract.
use borrow.Author.Rules.{rules}
use Rattle.changes.specs.Rows.{told_at}
use Rattle.changes.proofs.parent.Parent.told.Goals as goal

pub returns : goal.returns
unfolding told_at
returns c = search rules
