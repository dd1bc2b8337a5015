-- `move_step` meets its contract, by how `from` begins.
use Rattle.spec.specs.Bytes.{ascii}
use Rattle.undo.proofs.MoveLaws.{from_missing, step_root, step_at, step_malformed}
use Rattle.undo.proofs.moving.move_step.Goals as goal

pub returns-in_default : goal.returns-in_default
unfolding ascii
returns-in_default c = from_missing c.string_member.ensures
    c.in_default.is c.plain.ensures

pub returns-in-Root : goal.returns-in-Root
unfolding ascii
returns-in-Root c = step_root
    c.string_member.ensures _
    c.in-Some.is _
    c.part.ensures _
    c.first.ensures
    c.in-Root.is c.plain-in-Root.ensures

pub returns-in-At : goal.returns-in-At
unfolding ascii
returns-in-At c = step_at
    c.string_member.ensures _
    c.in-Some.is _
    c.part.ensures _
    c.first.ensures
    _ c.in-At.is
    c.move_below.ensures

pub returns-in-Malformed : goal.returns-in-Malformed
unfolding ascii
returns-in-Malformed c = step_malformed
    c.string_member.ensures _
    c.in-Some.is _
    c.part.ensures _
    c.first.ensures
    c.in-Malformed.is c.plain-in-Malformed.ensures
