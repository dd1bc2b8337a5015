-- `one_inspected` meets its contract, by the answer's number.
use Rattle.patch_count.proofs.SumLaws.{adds_refused, adds_accepted}
use Rattle.patch_count.proofs.tally.one_inspected.Goals as goal

pub returns-then-answer-ne0 : goal.returns-then-answer-ne0
returns-then-answer-ne0 c = adds_refused _ _ c.if-answer-ne0.true c.one_refused.ensures

pub returns : goal.returns
returns c = adds_accepted _ _ c.if-answer-ne0.false c.one_accepted.ensures
