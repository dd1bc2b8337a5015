-- `head_length` meets its contract: the pieces' bytes are counted. Assumes nothing.
use mathlib.Core.Path.{sym, ap}
use lib.ListN.{length}
use Rattle.spec.specs.Bytes.{ascii}
use Rattle.undo_log.specs.Pieces.{head_bytes}
use Rattle.undo_log.proofs.lengths.head_length.Goals as goal

pub returns-in-Add : goal.returns-in-Add
unfolding head_bytes ascii
returns-in-Add c = ap (λ a. length (head_bytes a)) (sym c.in-Add.is)

pub returns-in-Remove : goal.returns-in-Remove
unfolding head_bytes ascii
returns-in-Remove c = ap (λ a. length (head_bytes a)) (sym c.in-Remove.is)

pub returns-in-Replace : goal.returns-in-Replace
unfolding head_bytes ascii
returns-in-Replace c = ap (λ a. length (head_bytes a)) (sym c.in-Replace.is)
