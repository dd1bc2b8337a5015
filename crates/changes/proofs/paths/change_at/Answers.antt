-- `change_at` meets its contract.
use Rattle.changes.proofs.PathLaws.{change_too_many, change_too_few, change_root, change_below, change_malformed}
use Rattle.changes.proofs.paths.change_at.Goals as goal

pub returns-then-used-gt-MAX_NODES : goal.returns-then-used-gt-MAX_NODES
returns-then-used-gt-MAX_NODES c = change_too_many _ c.if-used-gt-MAX_NODES.true

pub returns-in-Root : goal.returns-in-Root
returns-in-Root c =
    change_root _ c.part.ensures _ c.first.ensures c.in-Root.is
    c.change_document.ensures

pub returns-then-used-eq0 : goal.returns-then-used-eq0
returns-then-used-eq0 c = change_too_few _ c.if-used-eq0.true

pub returns-else-used-eq0 : goal.returns-else-used-eq0
returns-else-used-eq0 c =
    change_below _ c.part.ensures _ c.first.ensures _ c.in-At.is c.alter.ensures

pub returns-in-Malformed : goal.returns-in-Malformed
returns-in-Malformed c = change_malformed _ c.part.ensures _ c.first.ensures _ c.in-Malformed.is
