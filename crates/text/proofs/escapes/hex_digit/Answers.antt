use Rattle.spec.specs.Write.{hex_digit}
use Rattle.text.proofs.Auto.{auto}
use Rattle.text.proofs.escapes.hex_digit.Goals as goal

pub returns-then-n-lt10 : goal.returns-then-n-lt10
unfolding hex_digit
returns-then-n-lt10 c = search auto

pub returns : goal.returns
unfolding hex_digit
returns c = search auto
