-- `list_origins` meets its contract: what is left to list gives the same list.
use mathlib.Core.Path.{sym, ◌∙◌}
use native.Mathlib.Omega.{arith}
use Rattle.listing.proofs.ListLaws.{list_all, list_next, list_whole}
use Rattle.listing.proofs.lists.list_origins.Goals as goal

pub loop-row-init : goal.loop-row-init
loop-row-init c = list_all _ _

pub loop-row-preserved : goal.loop-row-preserved
loop-row-preserved c =
    list_next c.args.nodes.now c.args.used c.loop-row.list c.loop-row.row (omega arith) (omega arith) (omega arith) ∙ c.loop-row.invariant

pub returns : goal.returns
returns c = sym (list_whole c.args.nodes.now c.args.used c.loop-row.list c.loop-row.row (omega arith)) ∙ c.loop-row.invariant
