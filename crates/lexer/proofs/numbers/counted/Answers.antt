use Rattle.spec.specs.Numbers.{counted}
use Rattle.spec.specs.Fault.{outcome_by, number_of}
use Rattle.lexer.proofs.Auto.{auto}
use Rattle.lexer.proofs.numbers.counted.Goals as goal

pub returns-then-at-start : goal.returns-then-at-start
unfolding counted outcome_by number_of
returns-then-at-start c = search auto

pub returns : goal.returns
unfolding counted outcome_by number_of
returns c = search auto
