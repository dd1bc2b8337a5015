-- `members_of` meets its contract: of each name, what is found in the rows before this one; the measure is the rows that are left.
use native.Mathlib.Omega.{arith}
use Rattle.table.proofs.Search.{behind_scalar, behind_container}
use Rattle.shape.proofs.PassLaws.{all_nothing, all_next, all_found, all_out}
use Rattle.shape.proofs.all_members.members_of.Goals as goal

pub returns-then-nodes-row : goal.returns-then-nodes-row
returns-then-nodes-row c = all_out (omega arith)

pub loop-at-init : goal.loop-at-init
loop-at-init c = (omega arith, all_nothing)

pub loop-at-preserved-then-kind_in-lt-ARRAY : goal.loop-at-preserved-then-kind_in-lt-ARRAY
loop-at-preserved-then-kind_in-lt-ARRAY c = (
  omega arith,
  all_next _ _ (omega arith) c.name_of.ensures
      (behind_scalar _ c.loop-at.at (omega (arith, c.kind_in.ensures))) c.all_noted-found.ensures c.loop-at.invariant.1,
)

pub loop-at-preserved : goal.loop-at-preserved
loop-at-preserved c = (
  omega arith,
  all_next _ _ (omega arith) c.name_of.ensures
      (omega (arith, c.wide.ensures, behind_container c.args.nodes.now c.loop-at.at (omega (arith, c.kind_in.ensures))))
      c.all_noted-found.ensures c.loop-at.invariant.1,
)

pub returns : goal.returns
returns c = all_found c.end_of-end.ensures (omega arith) c.loop-at.invariant.1
