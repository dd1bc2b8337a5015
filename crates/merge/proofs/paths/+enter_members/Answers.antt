-- `enter_members` meets its contract, by the levels, which fall. Its loop passes the members one by one.
use native.Mathlib.Omega.{arith}
use mathlib.Core.Path.{refl, ap, ◌∙◌}
use Rattle.tape.specs.Fields.{name_of}
use Rattle.merge.proofs.PathLaws.{entered_other, entered_flat, entering_none, entering_next, entering_done}
use Rattle.merge.proofs.paths.+enter_members.Goals as goal
use Rattle.merge.proofs.paths.+enter_members.Goals.{then-kind-ne-OBJECT-via-then-kind-ne-OBJECT}
use Rattle.merge.proofs.paths.+enter_members.Goals.{then-kind-ne-OBJECT-via-else-kind-ne-OBJECT+then-levels-eq0}

pub returns-then-kind-ne-OBJECT : goal.returns-then-kind-ne-OBJECT
returns-then-kind-ne-OBJECT t c =
    elim c.then-kind-ne-OBJECT.branch [
      | then-kind-ne-OBJECT-via-then-kind-ne-OBJECT w ↦ entered_other c.kind.ensures w.if-kind-ne-OBJECT.true
      | then-kind-ne-OBJECT-via-else-kind-ne-OBJECT+then-levels-eq0 w ↦ entered_flat w.if-levels-eq0.true
    ]

pub loop-row-init : goal.loop-row-init
loop-row-init t c = (refl, entering_none _ refl)

pub loop-row-preserved : goal.loop-row-preserved
loop-row-preserved t c = (
  omega arith,
  entering_next c.loop-row.invariant.1 (omega (arith, c.requires)) (omega arith) (omega arith)
      (omega (arith, c.loop-row.invariant.0, c.requires)) (c.name_of-name.ensures ∙ ap name_of c.load.ensures)
      c.enter.ensures c.enter_members.ensures _ c.end_of-row.ensures refl,
)

pub returns : goal.returns
returns t c = entering_done c.loop-row.invariant.1 (omega arith) refl c.loop-row.invariant.0
