-- The answer of the stages is that of the call.
use mathlib.Core.Path.{refl}
use Rattle.inspect.specs.Stages.{told_of}
use Rattle.inspect.proofs.answer.AnswerFromResultCountsAnswer.from.Goals as goal

pub returns-in-Ok : goal.returns-in-Ok
unfolding told_of
returns-in-Ok c = rw c.in-Ok.is c.accepted.ensures

pub returns-in-Err : goal.returns-in-Err
unfolding told_of
returns-in-Err c = rw c.in-Err.is refl
