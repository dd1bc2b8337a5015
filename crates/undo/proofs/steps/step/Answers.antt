-- `step` meets its contract, by the path and the kind, which every operation has.
use Rattle.spec.specs.Bytes.{ascii}
use Rattle.undo.proofs.StepLaws.{path_missing, kind_missing, step_moves, step_other}
use Rattle.undo.proofs.steps.step.Goals as goal

pub returns-in_default : goal.returns-in_default
unfolding ascii
returns-in_default c = path_missing c.string_member.ensures c.in_default.is c.plain.ensures

pub returns-in_default-kind_of : goal.returns-in_default-kind_of
unfolding ascii
returns-in_default-kind_of c = kind_missing c.kind_of.ensures c.in_default-kind_of.is c.plain-in_default-kind_of.ensures

pub returns-then-uses_of : goal.returns-then-uses_of
unfolding ascii
returns-then-uses_of c =
    step_moves c.string_member.ensures _ c.in-Some.is c.kind_of.ensures c.in-Some-kind_of.is c.uses_of.ensures c.if-uses_of.true c.move_step.ensures

pub returns : goal.returns
unfolding ascii
returns c =
    step_other c.string_member.ensures _ c.in-Some.is c.kind_of.ensures c.in-Some-kind_of.is c.uses_of.ensures c.if-uses_of.false
    c.note_before-log.ensures c.plain-2.ensures
