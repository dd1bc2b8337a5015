-- `writer::values::measure` meets its contract: the text so far and the values that are left are the text of all. The levels fall.
use native.Mathlib.Omega.{arith}
use lib.Dec.{eqb}
use Rattle.tape.specs.Layout.{object_kind}
use Rattle.writer.proofs.LengthLaws.{scalar_short, prefix_short}
use Rattle.writer.proofs.ValueLaws.{measure_out, measure_scalar, measuring_next, measure_nested, measuring_all, measuring_none}
use Rattle.tape.specs.Lent.{both}
use Rattle.writer.proofs.values.+measure.Goals as goal

pub returns-then-nodes-at : goal.returns-then-nodes-at
returns-then-nodes-at t c = measure_out c.if-nodes-at.true

pub returns-then-kind-lt-ARRAY : goal.returns-then-kind-lt-ARRAY
returns-then-kind-lt-ARRAY t c =
    measure_scalar _ _ c.kind_in-kind.ensures c.value_of.ensures c.if-kind-lt-ARRAY.true _ c.scalar_length.ensures
    (omega (
      arith,
      c.scalar_length.ensures,
      c.value_of.type_inv,
      scalar_short (both c.args.texts)
          c.kind_in-kind.result c.value_of.result,
    ))

pub returns-then-levels-eq0 : goal.returns-then-levels-eq0
returns-then-levels-eq0 t c = measure_nested _ c.kind_in-kind.ensures c.if-kind-lt-ARRAY.false c.if-levels-eq0.true

pub loop-row-init : goal.loop-row-init
loop-row-init t c = (omega arith, measuring_all _ c.kind_in-kind.ensures c.if-kind-lt-ARRAY.false _ c.end_of-end.ensures)

pub overflow_add-total : goal.overflow_add-total
overflow_add-total t c =
    omega (
      arith,
      c.name_of.type_inv,
      c.measure-value.ensures.few,
      prefix_short (both
          c.args.texts) (eqb c.kind_in-kind.result object_kind)
          c.loop-row.first c.name_of.result,
    )

pub overflow_add-total-in-loop-row : goal.overflow_add-total-in-loop-row
overflow_add-total-in-loop-row t c =
    omega (
      arith,
      c.name_of.type_inv,
      c.measure-value.ensures.few,
      prefix_short (both
          c.args.texts) (eqb c.kind_in-kind.result object_kind)
          c.loop-row.first c.name_of.result,
    )

pub loop-row-preserved : goal.loop-row-preserved
loop-row-preserved t c = (
  omega (arith, c.min-total.ensures),
  measuring_next c.loop-row.invariant.1 (omega arith) _ c.end_of-row.ensures _ c.name_of.ensures _ c.prefix_length-before.ensures _
      c.measure-value.ensures _ c.min-total.ensures,
)

pub returns : goal.returns
returns t c =
    measuring_none _ c.kind_in-kind.ensures c.if-kind-lt-ARRAY.false c.loop-row.invariant.1 (omega arith) c.loop-row.invariant.0
