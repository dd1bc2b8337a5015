-- `with_value` meets its contract: a value has one node more than there are below it. Assumes nothing.
use native.Mathlib.Omega.{arith}
use Rattle.undo_log.proofs.OperationLaws.{held_span}
use Rattle.undo_log.proofs.note.with_value.Goals as goal

pub returns : goal.returns
returns c n e T v h = omega (arith, e, c.saturating_add-four.ensures, c.saturating_add.ensures, c.min.ensures, c.span.ensures, held_span h)
