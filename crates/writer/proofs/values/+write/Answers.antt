-- `writer::values::write` meets its contract: the text so far is laid down, and it and the values that are left are the text of all. The
-- levels fall.
use Prim.Native.Nat.{◌+◌, ◌≤◌}
use native.Mathlib.Omega.{arith}
use mathlib.Core.Path.{refl, ◌∙◌}
use lib.ListN.{length}
use Rattle.writer.proofs.PlacedLaws.{placed-length, placed-inside, back_length, lent_fits, turn_fits}
use Rattle.writer.proofs.ValueLaws.{write_out, write-scalar_laid, laying_next, scalar_end, write-nested, laying_all, laying_none}
use Rattle.writer.proofs.values.+write.Goals as goal

pub returns-then-nodes-at : goal.returns-then-nodes-at
returns-then-nodes-at t c = write_out c.if-nodes-at.true

pub returns-then-kind-lt-ARRAY : goal.returns-then-kind-lt-ARRAY
returns-then-kind-lt-ARRAY t c =
    write-scalar_laid _ _ c.kind_in-kind.ensures c.value_of.ensures c.if-kind-lt-ARRAY.true c.write_scalar.ensures

pub returns-then-levels-eq0 : goal.returns-then-levels-eq0
returns-then-levels-eq0 t c = write-nested _ c.kind_in-kind.ensures c.if-kind-lt-ARRAY.false c.if-levels-eq0.true

pub loop-row-init : goal.loop-row-init
loop-row-init t c =
    (omega arith, refl, laying_all _ c.kind_in-kind.ensures c.if-kind-lt-ARRAY.false _ c.end_of-end.ensures _ _ (omega arith))

pub overflow_add-put-then-sort-lt-ARRAY : goal.overflow_add-put-then-sort-lt-ARRAY
overflow_add-put-then-sort-lt-ARRAY t c =
    let l = c.loop-row in let p = c.write_prefix-before in let w = c.write_scalar-value in
    let fits : l.put + p.result ≤ length l.out = lent_fits l.out l.put p.result (omega arith) l.invariant.0 in
    let turn = turn_fits l.out l.put p.result p.new.out w.new.out fits p.auto.out w.auto.out (placed-inside w.ensures) in
    omega (arith, turn.0, placed-length c.put_byte-put.ensures)

pub loop-row-preserved-then-sort-lt-ARRAY : goal.loop-row-preserved-then-sort-lt-ARRAY
loop-row-preserved-then-sort-lt-ARRAY t c =
    let l = c.loop-row in let p = c.write_prefix-before in let w = c.write_scalar-value in
    let sort = c.kind_in-sort.ensures in let scalar = c.if-sort-lt-ARRAY.true in
    let fits : l.put + p.result ≤ length l.out = lent_fits l.out l.put p.result (omega arith) l.invariant.0 in
    let turn = turn_fits l.out l.put p.result p.new.out w.new.out fits p.auto.out w.auto.out (placed-inside w.ensures) in
    let told = write-scalar_laid _ _ sort c.value_of-then-sort-lt-ARRAY.ensures scalar w.ensures in (
      omega (arith, turn),
      turn.1 ∙ l.invariant.1,
      laying_next l.invariant.2 (omega (arith, c.loop-row-test.true)) _ (λ d ks held. scalar_end held _ sort scalar) _
          c.name_of.ensures p.ensures told,
    )

pub overflow_add-put-in-loop-row : goal.overflow_add-put-in-loop-row
overflow_add-put-in-loop-row t c =
    let l = c.loop-row in let p = c.write_prefix-before in let w = c.write-value in
    let fits : l.put + p.result ≤ length l.out = lent_fits l.out l.put p.result (omega arith) l.invariant.0 in
    let turn = turn_fits l.out l.put p.result p.new.out w.new.out fits p.auto.out w.auto.out (placed-inside w.ensures.some.placed) in
    omega (arith, turn.0, placed-length c.put_byte-put.ensures)

pub loop-row-preserved : goal.loop-row-preserved
loop-row-preserved t c =
    let l = c.loop-row in let p = c.write_prefix-before in let w = c.write-value in
    let fits : l.put + p.result ≤ length l.out = lent_fits l.out l.put p.result (omega arith) l.invariant.0 in
    let turn = turn_fits l.out l.put p.result p.new.out w.new.out fits p.auto.out w.auto.out (placed-inside w.ensures.some.placed) in (
      omega (arith, turn),
      turn.1 ∙ l.invariant.1,
      laying_next l.invariant.2 (omega (arith, c.loop-row-test.true)) _ (λ d ks held. c.end_of-row.ensures) _
          c.name_of.ensures p.ensures w.ensures,
    )

pub shape_of-out : goal.shape_of-out
shape_of-out t c =
    let l = c.loop-row in let last = c.put_byte-last in
    back_length l.out l.put last.new.out last.auto.out ∙ l.invariant.1 ∙ placed-length c.put_byte-put.ensures

pub returns : goal.returns
returns t c =
    laying_none _ c.kind_in-kind.ensures c.if-kind-lt-ARRAY.false _ _ c.opening_bracket.ensures c.closing_bracket.ensures
    c.put_byte-put.ensures c.loop-row.invariant.2 (omega arith) c.put_byte-last.ensures
