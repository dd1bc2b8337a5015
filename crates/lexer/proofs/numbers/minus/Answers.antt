use Rattle.spec.specs.Numbers.{minus}
use Rattle.lexer.proofs.Auto.{auto}
use Rattle.lexer.proofs.numbers.minus.Goals as goal

pub returns-then-peek-eq45 : goal.returns-then-peek-eq45
unfolding minus
returns-then-peek-eq45 c = rw (← c.peek.ensures) (search auto)

pub returns : goal.returns
unfolding minus
returns c = rw (← c.peek.ensures) (search auto)
