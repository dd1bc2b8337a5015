-- `set_slot` meets its contract.
use mathlib.Core.Path.{sym}
use lib.Seq.{set_out}
use Rattle.index.specs.Slots.{slot_set}
use Rattle.index.proofs.slots.set_slot.Goals as goal

pub returns-then-at-index : goal.returns-then-at-index
unfolding slot_set
returns-then-at-index c = rw c.narrow.ensures

pub returns-else-at-index : goal.returns-else-at-index
unfolding slot_set
returns-else-at-index c = sym (set_out _ _ _ c.if-at-index.false)
