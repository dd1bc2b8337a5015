-- `behind` meets its contract: behind the table a span is 0.
use native.Mathlib.Omega.{arith}
use Rattle.tape.proofs.FieldLaws.{field_out}
use Rattle.index.proofs.members.behind.Goals as goal

pub returns-then-nodes-row : goal.returns-then-nodes-row
returns-then-nodes-row c = (omega (arith, field_out c.args.nodes.now c.args.row 4 c.if-nodes-row.true), omega arith)

pub returns : goal.returns
returns c = (omega (arith, c.wide.ensures), omega (arith, c.wide.ensures))
