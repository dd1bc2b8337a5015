-- `put_last_field` meets its contract: the newline is laid down behind the number.
use Rattle.writer.proofs.PlacedLaws.{placed_as, placed_then}
use Rattle.spec.specs.Bytes.{ascii}
use Rattle.report.proofs.LineLaws.{last_pieces}
use Rattle.report.proofs.pieces.put_last_field.Goals as goal

pub returns : goal.returns
unfolding ascii
returns c =
    placed_as (last_pieces c.args.n) (placed_then c.put_field-put.ensures c.put_bytes-more.ensures)
