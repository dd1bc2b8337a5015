use borrow.Author.Rules.{rules}
use Rattle.spec.specs.Bytes.{within}
use Rattle.spec.specs.Numbers.{is_digit}
use Rattle.decimal.proofs.mantissa.is_digit.Goals as goal

pub returns : goal.returns
unfolding is_digit within
returns c = search rules
