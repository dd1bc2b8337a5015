use borrow.Author.Rules.{rules}
use Rattle.table.specs.Meaning.{short_hash}
use Rattle.table.proofs.find.short.Goals as goal

pub returns : goal.returns
unfolding short_hash
returns c = search rules
