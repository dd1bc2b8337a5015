-- `text_length` meets its contract. Assumes nothing.
use Rattle.undo_log.proofs.LogLaws.{length_none, length_some}
use Rattle.undo_log.proofs.log.text_length.Goals as goal

pub returns-then-log-eq0 : goal.returns-then-log-eq0
returns-then-log-eq0 c work os n h = length_none os n c.if-log-eq0.true

pub returns-else-log-eq0 : goal.returns-else-log-eq0
returns-else-log-eq0 c work os n h = length_some os n c.if-log-eq0.false h
