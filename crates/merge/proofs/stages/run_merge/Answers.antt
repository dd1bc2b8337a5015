-- `run_merge` meets its contract, by the kind of the patch and by the rows that the result takes.
use Rattle.spec.specs.Fault.{number_of}
use Rattle.merge.proofs.StageLaws.{run_whole, run_many, run-done}
use Rattle.merge.proofs.stages.run_merge.Goals as goal

pub returns-then-kind-ne-OBJECT : goal.returns-then-kind-ne-OBJECT
returns-then-kind-ne-OBJECT c =
    run_whole c.kind.ensures _ c.if-kind-ne-OBJECT.true c.write_at.ensures

pub returns-then-merge_trees-gt-ROWS : goal.returns-then-merge_trees-gt-ROWS
unfolding number_of
returns-then-merge_trees-gt-ROWS c =
    run_many c.kind.ensures c.if-kind-ne-OBJECT.false c.merge_trees.ensures c.if-merge_trees-gt-ROWS.true c.refusal_answer.ensures

pub returns : goal.returns
returns c =
    run-done c.kind.ensures c.if-kind-ne-OBJECT.false c.merge_trees.ensures _ c.if-merge_trees-gt-ROWS.false c.write_at-2.ensures
