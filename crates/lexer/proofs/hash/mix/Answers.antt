use Rattle.lexer.specs.Hash.{mix}
use Rattle.lexer.proofs.Auto.{auto}
use Rattle.lexer.proofs.hash.mix.Goals as goal

pub returns : goal.returns
unfolding mix
returns c = search auto
