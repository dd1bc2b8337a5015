-- `write_string` meets its contract: the pieces do, and so does one piece of the same bytes.
use Rattle.writer.proofs.PlacedLaws.{placed_as}
use Rattle.writer.proofs.PieceLaws.{plain_pieces}
use Rattle.writer.proofs.pieces.write_string.Goals as goal

pub returns : goal.returns
returns c =
    placed_as (plain_pieces _ _ c.if-spelling-ne-PLAIN_STRING.false c.part-s.ensures) c.put_quoted.ensures
