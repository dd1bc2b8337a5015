-- The answer of the stages is that of the call.
use mathlib.Core.Path.{ap, ap₂}
use Rattle.json_patch.proofs.AnswerLaws.{success_is}
use Rattle.undo.specs.Call.{as_undo_answer}
use Rattle.undo.proofs.answer.UndoAnswerFromResultWrittenAnswer.from.Goals as goal

pub returns-in-Ok : goal.returns-in-Ok
unfolding as_undo_answer
returns-in-Ok c = rw c.in-Ok.is (ap (λ a. record { answer = a; undo = c.in-Ok.written.undo }) (success_is c.success.ensures))

pub returns-in-Err : goal.returns-in-Err
unfolding as_undo_answer
returns-in-Err c = rw c.in-Err.is (ap₂ (λ a n. record { answer = a; undo = n }) c.without.ensures.0 c.without.ensures.1)
