-- `past_byte` meets its contract.
use Rattle.lexer.proofs.ByteLaws.{read-inside}
use Rattle.reader.proofs.words.past_byte.Goals as goal

pub returns : goal.returns
returns c = read-inside c.read-read.ensures c.requires
