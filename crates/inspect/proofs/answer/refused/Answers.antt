-- `refused` meets its contract: its counts are all 0.
use mathlib.Core.Path.{refl}
use Rattle.inspect.proofs.answer.refused.Goals as goal

pub returns : goal.returns
returns c = rw (← c.from.ensures) refl
