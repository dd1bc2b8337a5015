-- `find` meets its contract: the names in the rows before this one are others, and the measure is the rows that are left.
use native.Mathlib.Omega.{arith}
use mathlib.Core.Path.{sym, ◌∙◌}
use Rattle.tape.specs.Rows.{block}
use Rattle.tape.specs.Lent.{both}
use Rattle.table.proofs.Search.{pass, pass_quiet, meet, over, behind_scalar, behind_container, finds}
use Rattle.table.proofs.find.find.Goals as goal

pub loop-row-init : goal.loop-row-init
loop-row-init c = (omega arith, λ r s. s)

pub quiet-requires : goal.quiet-requires
quiet-requires c = (omega arith, omega arith)

pub loop-row-preserved-then-quiet : goal.loop-row-preserved-then-quiet
loop-row-preserved-then-quiet c =
    let q = c.quiet.ensures c.if-quiet.true in
    (omega arith, pass_quiet (both c.args.texts) c.args.name block q.0 q.1 c.loop-row.invariant.1)

pub returns-then-same_name : goal.returns-then-same_name
returns-then-same_name c = finds _ c.min-stop.ensures
    (meet c.loop-row.invariant.1 (omega arith) (sym c.if-same_name.true ∙ c.same_name.ensures)
    c.name_of.ensures)

pub loop-row-preserved-then-kind_in-lt-ARRAY : goal.loop-row-preserved-then-kind_in-lt-ARRAY
loop-row-preserved-then-kind_in-lt-ARRAY c = (
  omega arith,
  pass c.loop-row.invariant.1 _ (omega arith)
      (sym c.if-same_name.false ∙ c.same_name.ensures)
      c.name_of.ensures
      (behind_scalar _ c.loop-row.row
      (omega (arith, c.kind_in.ensures))),
)

pub loop-row-preserved : goal.loop-row-preserved
loop-row-preserved c = (
  omega arith,
  pass c.loop-row.invariant.1 _ (omega arith)
      (sym c.if-same_name.false ∙ c.same_name.ensures)
      c.name_of.ensures
      (omega (
        arith,
        c.wide.ensures,
        behind_container
            c.args.nodes.now
            c.loop-row.row
            (omega (arith, c.kind_in.ensures)),
      )),
)

pub returns : goal.returns
returns c = finds _ c.min-stop.ensures (over c.loop-row.invariant.1 (omega arith))
