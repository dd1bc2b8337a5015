-- The answer of the stages is that of the call.
use mathlib.Core.Path.{refl}
use Rattle.compare.specs.Stages.{told_of}
use Rattle.compare.proofs.answer.AnswerFromResultComparisonAnswer.from.Goals as goal

pub returns-in-Ok : goal.returns-in-Ok
unfolding told_of
returns-in-Ok c = rw c.in-Ok.is c.success.ensures

pub returns-in-Err : goal.returns-in-Err
unfolding told_of
returns-in-Err c = rw c.in-Err.is refl
