use Rattle.spec.specs.Numbers.{int}
use Rattle.lexer.proofs.Auto.{auto}
use Rattle.lexer.proofs.numbers.int.Goals as goal

pub returns-then-peek-eq48 : goal.returns-then-peek-eq48
unfolding int
returns-then-peek-eq48 c = rw (← c.peek.ensures) (search auto)

pub returns : goal.returns
unfolding int
returns c = rw (← c.peek.ensures) (search auto)
