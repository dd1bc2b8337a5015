use borrow.Author.Rules.{rules}
use Rattle.spec.specs.Numbers.{is_e}
use Rattle.decimal.proofs.mantissa.is_e.Goals as goal

pub returns-in-101 : goal.returns-in-101
unfolding is_e
returns-in-101 c = search rules

pub returns-in_default : goal.returns-in_default
unfolding is_e
returns-in_default c = search rules
