-- `run_listed` meets its contract, by the kind of the patch and by the rows that the result takes.
use native.Mathlib.Omega.{arith}
use Rattle.spec.specs.Fault.{number_of}
use Rattle.merge_listing.proofs.StageLaws.{run_whole, run_many, run-done}
use Rattle.merge_listing.proofs.stages.run_listed.Goals as goal

pub returns-then-kind-ne-OBJECT : goal.returns-then-kind-ne-OBJECT
returns-then-kind-ne-OBJECT c =
    run_whole c.stamp_both.ensures c.kind.ensures _ c.if-kind-ne-OBJECT.true
    c.end_of-count.ensures c.write_listed.ensures

pub returns-then-next-gt-ROWS : goal.returns-then-next-gt-ROWS
unfolding number_of
returns-then-next-gt-ROWS c =
    run_many c.stamp_both.ensures c.kind.ensures c.if-kind-ne-OBJECT.false
    (c.merge_read-next.ensures.merged (omega (arith, c.requires, c.stamp_both.auto.nodes)) (omega (arith, c.requires)))
    c.if-next-gt-ROWS.true c.refusal_answer.ensures

pub overflow_sub-count-2 : goal.overflow_sub-count-2
overflow_sub-count-2 c =
    omega (arith, (c.merge_read-next.ensures.merged (omega (arith, c.requires, c.stamp_both.auto.nodes)) (omega (arith, c.requires))).onward)

pub returns : goal.returns
returns c =
    run-done c.stamp_both.ensures c.kind.ensures c.if-kind-ne-OBJECT.false
    (c.merge_read-next.ensures.merged (omega (arith, c.requires, c.stamp_both.auto.nodes)) (omega (arith, c.requires)))
    _ c.if-next-gt-ROWS.false c.write_listed-2.ensures
