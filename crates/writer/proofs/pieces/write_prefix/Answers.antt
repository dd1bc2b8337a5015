-- `write_prefix` meets its contract: comma and name are laid down one behind the other.
use Rattle.writer.proofs.PlacedLaws.{placed_as, placed_then}
use Rattle.writer.proofs.PieceLaws.{prefix_pieces}
use Rattle.writer.proofs.pieces.write_prefix.Goals as goal

pub returns : goal.returns
returns c =
    placed_as (prefix_pieces _ _ _ _) (placed_then c.write_comma-put.ensures c.write_name-n.ensures)
