-- `find_ascii` meets its contract, as `find` does.
use native.Mathlib.Omega.{arith}
use mathlib.Core.Path.{sym, ap, ◌∙◌}
use Rattle.table.specs.Meaning.{short_hash}
use Rattle.table.proofs.Search.{pass, meet, over, behind_scalar, behind_container, finds_ascii}
use Rattle.table.proofs.find.find_ascii.Goals as goal

pub loop-row-init : goal.loop-row-init
loop-row-init c = (omega arith, λ r s. s)

pub returns-then-is_named : goal.returns-then-is_named
returns-then-is_named c = finds_ascii _ c.min-stop.ensures
    (c.short-h.ensures ∙ ap short_hash
    c.hash_ascii.ensures)
    (meet c.loop-row.invariant.1 (omega arith) (sym c.if-is_named.true ∙ c.is_named.ensures)
    c.name_of.ensures)

pub loop-row-preserved-then-kind_in-lt-ARRAY : goal.loop-row-preserved-then-kind_in-lt-ARRAY
loop-row-preserved-then-kind_in-lt-ARRAY c = (
  omega arith,
  pass c.loop-row.invariant.1 _ (omega arith)
      (sym c.if-is_named.false ∙ c.is_named.ensures)
      c.name_of.ensures
      (behind_scalar _ c.loop-row.row (omega (arith, c.kind_in.ensures))),
)

pub loop-row-preserved : goal.loop-row-preserved
loop-row-preserved c = (
  omega arith,
  pass c.loop-row.invariant.1 _ (omega arith)
      (sym c.if-is_named.false ∙ c.is_named.ensures)
      c.name_of.ensures
      (omega (
        arith,
        c.wide.ensures,
        behind_container
            c.args.nodes.now
            c.loop-row.row
            (omega (arith, c.kind_in.ensures)),
      )),
)

pub returns : goal.returns
returns c = finds_ascii _ c.min-stop.ensures (c.short-h.ensures ∙ ap short_hash
    c.hash_ascii.ensures) (over c.loop-row.invariant.1 (omega arith))
