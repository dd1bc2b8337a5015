-- `rest_length` meets its contract: a text has an opening bracket at least. Assumes nothing.
use native.Mathlib.Omega.{arith}
use Rattle.undo_log.proofs.LogLaws.{text_some}
use Rattle.undo_log.proofs.log.rest_length.Goals as goal

pub returns : goal.returns
returns c work os n h = omega (arith, c.text_length.ensures work os n h, c.saturating_sub.ensures, text_some os)
