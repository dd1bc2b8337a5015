-- `put_two_fields` meets its contract: one is laid down behind the other.
use Rattle.writer.proofs.PlacedLaws.{placed_then}
use Rattle.report.proofs.pieces.put_two_fields.Goals as goal

pub returns : goal.returns
returns c = placed_then c.put_field-put.ensures c.put_field-more.ensures
