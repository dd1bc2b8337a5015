-- `put_field` meets its contract: the number is laid down behind the word.
use Rattle.writer.proofs.PlacedLaws.{placed_then}
use Rattle.report.proofs.pieces.put_field.Goals as goal

pub returns : goal.returns
returns c = placed_then c.put_bytes-put.ensures c.put_decimal-more.ensures
