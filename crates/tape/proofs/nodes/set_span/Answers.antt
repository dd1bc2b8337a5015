-- `tape::nodes::set_span` meets its contract. Assumes nothing.
use mathlib.Core.Path.{sym}
use lib.Seq.{set_out}
use Rattle.tape.proofs.nodes.set_span.Goals as goal

pub returns-then-row-nodes : goal.returns-then-row-nodes
returns-then-row-nodes c = rw c.narrow.ensures

pub returns-else-row-nodes : goal.returns-else-row-nodes
returns-else-row-nodes c = sym (set_out c.args.nodes.now c.args.row _ c.if-row-nodes.false)
