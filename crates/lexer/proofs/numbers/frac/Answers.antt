use Rattle.spec.specs.Outcome.{◌>>=◌}
use Rattle.spec.specs.Numbers.{frac}
use Rattle.spec.specs.Fault.{outcome_by}
use Rattle.spec.proofs.FaultLaws.{handed}
use Rattle.lexer.proofs.Tests.{tests}
use Rattle.lexer.proofs.Auto.{auto}
use Rattle.lexer.proofs.numbers.frac.Goals as goal

pub returns-then-peek-ne46 : goal.returns-then-peek-ne46
unfolding frac outcome_by
returns-then-peek-ne46 c = rw (← c.peek.ensures) (search auto)

pub returns-in_err-next : goal.returns-in_err-next
unfolding frac outcome_by ◌>>=◌
returns-in_err-next c = rw (handed _ c.from_residual.ensures.1, ← c.peek.ensures) (search auto)

pub returns : goal.returns
unfolding frac
returns c = rw (← c.peek.ensures) (search (auto, c.counted.ensures, c.in_ok-next.was, c.some_digits.ensures))
