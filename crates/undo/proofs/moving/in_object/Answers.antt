-- `in_object` meets its contract, by what the walk to the parent leads to.
use mathlib.Core.Path.{sym, ◌∙◌, ap}
use Rattle.spec.specs.Value.{is_object}
use Rattle.undo.proofs.MendLaws.{not_lost, walked-value}
use Rattle.undo.proofs.PathLaws.{value-walked}
use Rattle.undo.proofs.SiteLaws.{parent_path, row-object}
use Rattle.undo.proofs.moving.in_object.Goals as goal

pub returns-in_default : goal.returns-in_default
returns-in_default c used v d short t ts p parent there = not_lost _ c.walk.ensures c.in_default.is d short (parent_path d short p _
    c.part.ensures c.last_slash-cut.ensures _
    c.shortened.ensures)
    (record { value = parent; is = there })

pub returns : goal.returns
returns c used v d short t ts p parent there = let held = walked-value _ c.walk.ensures c.in-Ok.is d short
    (parent_path d short p _ c.part.ensures
    c.last_slash-cut.ensures _ c.shortened.ensures) in
    sym (row-object held _ c.kind.ensures) ∙ ap (λ u. is_object u.label) (value-walked _ v parent there)
