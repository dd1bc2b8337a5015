-- `report` meets its contract: what ends the line is laid down in the rest of the output, behind the text.
use Rattle.writer.proofs.PlacedLaws.{placed_none, placed_then}
use Rattle.report.proofs.LineLaws.{placed_past}
use Rattle.report.proofs.report.Goals as goal

pub returns-then-output-at : goal.returns-then-output-at
returns-then-output-at c = placed_past _ _ _ c.if-output-at.true

pub returns : goal.returns
returns c = placed_then (placed_none _ _ c.if-output-at.false) c.put_ending-n.ensures
