-- What `search` is given for a need of a function: `search auto` closes most of them.
use borrow.Author.Rules.{rules}
use Rattle.lexer.proofs.Tests.{tests}
use Rattle.lexer.proofs.AnswerLaws.{steps}

pub ruleset auto = (rules, tests, steps)
