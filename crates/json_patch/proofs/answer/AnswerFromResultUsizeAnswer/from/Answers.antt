-- The answer of the stages is that of the call.
use mathlib.Core.Path.{refl}
use Rattle.json_patch.specs.Stages.{as_answer}
use Rattle.json_patch.proofs.AnswerLaws.{success_is}
use Rattle.json_patch.proofs.answer.AnswerFromResultUsizeAnswer.from.Goals as goal

pub returns-in-Ok : goal.returns-in-Ok
returns-in-Ok c = rw c.in-Ok.is (success_is c.success.ensures)

pub returns-in-Err : goal.returns-in-Err
unfolding as_answer
returns-in-Err c = rw c.in-Err.is refl
