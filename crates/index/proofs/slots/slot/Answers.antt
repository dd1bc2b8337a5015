-- `slot` meets its contract.
use mathlib.Core.Path.{sym}
use lib.ListN.{get_or-eq_default}
use Rattle.index.specs.Slots.{slot_at}
use Rattle.index.proofs.slots.slot.Goals as goal

pub returns-then-index-at : goal.returns-then-index-at
unfolding slot_at
returns-then-index-at c = sym (get_or-eq_default c.args.index.now 0 c.if-index-at.true)

pub returns : goal.returns
unfolding slot_at
returns c = c.wide.ensures.0
