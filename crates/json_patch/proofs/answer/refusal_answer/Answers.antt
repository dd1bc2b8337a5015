-- `refusal_answer` meets its contract: the number is that of the refusal.
use Rattle.json_patch.proofs.answer.refusal_answer.Goals as goal

pub returns : goal.returns
returns c = rw c.from.ensures at c.refused.ensures
