use borrow.Author.Rules.{rules}
use Rattle.spec.specs.Bytes.{within}
use Rattle.decimal.specs.Normal.{is_nonzero_digit}
use Rattle.decimal.proofs.mantissa.is_nonzero_digit.Goals as goal

pub returns : goal.returns
unfolding is_nonzero_digit within
returns c = search rules
