-- `shift` meets its contract, by what the two tokens name.
use mathlib.Core.Path.{refl, ap, ◌∙◌}
use Rattle.tape.specs.Fields.{name_of}
use Rattle.shift.specs.Shift.{child-kept}
use Rattle.shift.proofs.SiblingLaws.{element_shifts}
use Rattle.shift.proofs.within.shift.Goals as goal

pub returns-then-kind-ne-ARRAY : goal.returns-then-kind-ne-ARRAY
returns-then-kind-ne-ARRAY c = child-kept refl

pub returns-in_default : goal.returns-in_default
returns-in_default c = child-kept refl

pub returns-in_default-step : goal.returns-in_default-step
returns-in_default-step c = child-kept refl

pub returns-then-name_of-ne-NO_TEXT : goal.returns-then-name_of-ne-NO_TEXT
returns-then-name_of-ne-NO_TEXT c = child-kept refl

pub returns : goal.returns
returns c =
    element_shifts c.requires _ c.kind.ensures c.if-kind-ne-ARRAY.false _ c.step.ensures c.in-Ok.is _ c.step-2.ensures
    c.in-Ok-step.is _ (c.name_of.ensures ∙ ap name_of c.load.ensures) c.if-name_of-ne-NO_TEXT.false c.turn.ensures
