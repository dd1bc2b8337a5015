-- `holds` meets its contract, by the two pointers.
use Rattle.undo.proofs.MoveLaws.{holds_not, holds_root, holds_at, holds_malformed}
use Rattle.undo.proofs.moving.holds.Goals as goal

pub returns-then-not-proper_prefix : goal.returns-then-not-proper_prefix
returns-then-not-proper_prefix c = holds_not _ _ _ _ c.part-to.ensures _ c.part.ensures c.proper_prefix.ensures
    c.if-not-proper_prefix.true

pub returns-in-Root : goal.returns-in-Root
returns-in-Root c = holds_root _ _ _ _ c.part-to.ensures _
    c.part.ensures c.proper_prefix.ensures c.if-not-proper_prefix.false _ c.first.ensures
    c.in-Root.is

pub returns-in-At : goal.returns-in-At
returns-in-At c = holds_at _ _ _ _ c.part-to.ensures _
    c.part.ensures c.proper_prefix.ensures c.if-not-proper_prefix.false _ c.first.ensures
    _ c.in-At.is c.in_object.ensures

pub returns-in-Malformed : goal.returns-in-Malformed
returns-in-Malformed c = holds_malformed _ _ _ _ c.part-to.ensures _
    c.part.ensures c.proper_prefix.ensures c.if-not-proper_prefix.false _ c.first.ensures
    c.in-Malformed.is
