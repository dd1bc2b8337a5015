use Rattle.lexer.proofs.Auto.{auto}
use Rattle.text.specs.Letters.{letter_at}
use Rattle.pointer.proofs.tokens.character_in.Goals as goal

pub returns : goal.returns
unfolding letter_at
returns c = search auto
