-- `write_name` meets its contract: a member's name and the colon are laid down one behind the other.
use native.Mathlib.Omega.{arith}
use mathlib.Core.Path.{refl}
use Rattle.writer.proofs.PlacedLaws.{placed_as, placed_none, placed_then}
use Rattle.writer.proofs.PieceLaws.{name-member, name_element}
use Rattle.writer.proofs.pieces.write_name.Goals as goal

pub returns-then-not-object : goal.returns-then-not-object
returns-then-not-object c = placed_as (name_element _ _ _ c.if-not-object.true) (placed_none 0 _ (omega arith))

pub returns : goal.returns
returns c =
    placed_as (name-member _ _ _ c.if-not-object.false refl) (placed_then c.write_string-put.ensures c.put_byte-last.ensures)
