-- `put_ending` meets its contract, by the answer's number.
use Rattle.writer.proofs.PlacedLaws.{placed_as}
use Rattle.report.proofs.LineLaws.{ending-done, ending_refused}
use Rattle.report.proofs.pieces.put_ending.Goals as goal

pub returns-then-answer-eq0 : goal.returns-then-answer-eq0
returns-then-answer-eq0 c = placed_as (ending-done _ c.if-answer-eq0.true) c.put_bytes.ensures

pub returns : goal.returns
returns c = placed_as (ending_refused _ c.if-answer-eq0.false) c.put_refusal.ensures
