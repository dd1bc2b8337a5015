-- `write_pieces` meets its contract: its three pieces are laid down one behind another.
use mathlib.Core.Path.{refl}
use Rattle.writer.proofs.PlacedLaws.{placed_as, placed_then}
use Rattle.writer.proofs.PieceLaws.{string-pieces}
use Rattle.writer.proofs.pieces.write_pieces.Goals as goal

pub returns : goal.returns
returns c =
    placed_as (string-pieces _ _ refl c.part-s.ensures)
    (placed_then (placed_then c.put_byte-put.ensures c.put_part-n.ensures) c.put_byte-last.ensures)
