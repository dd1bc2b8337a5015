-- `put_head` meets its contract: a plain piece is copied. Assumes nothing.
use mathlib.Core.Path.{ap}
use Rattle.spec.specs.Bytes.{ascii}
use Rattle.text.specs.Written.{written}
use Rattle.writer.proofs.PlacedLaws.{placed_as}
use Rattle.undo_log.specs.Pieces.{head_bytes}
use Rattle.undo_log.proofs.pieces.put_head.Goals as goal

pub returns-in-Add : goal.returns-in-Add
unfolding head_bytes ascii written
returns-in-Add c = placed_as (ap head_bytes c.in-Add.is) c.put_part.ensures

pub returns-in-Remove : goal.returns-in-Remove
unfolding head_bytes ascii written
returns-in-Remove c = placed_as (ap head_bytes c.in-Remove.is) c.put_part-in-Remove.ensures

pub returns-in-Replace : goal.returns-in-Replace
unfolding head_bytes ascii written
returns-in-Replace c = placed_as (ap head_bytes c.in-Replace.is) c.put_part-in-Replace.ensures
