use borrow.Author.Rules.{rules}
use Rattle.lexer.specs.States.{look}
use Rattle.lexer.proofs.verbatim.next_state.Goals as goal

pub returns : goal.returns
unfolding look
returns c = search rules
