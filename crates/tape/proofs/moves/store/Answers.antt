-- `tape::moves::store` meets its contract. Assumes nothing.
use mathlib.Core.Path.{sym}
use lib.Seq.{set_out}
use Rattle.tape.proofs.moves.store.Goals as goal

pub returns-else-row-nodes : goal.returns-else-row-nodes
returns-else-row-nodes c = sym (set_out c.args.nodes.now c.args.row c.args.node c.if-row-nodes.false)
