-- The number of each pointer is that of an answer.
use mathlib.Core.Path.{◌≡◌, sym, ap, ◌∙◌}
use Rattle.operations.specs.declared.answers.Pointer.TheVariants as Pointer
use Rattle.operations.specs.Answers.{numbered, pointed}
use Rattle.json_patch.proofs.answer.pointer_number.Goals as goal

pub returns-in-Some-Path : goal.returns-in-Some-Path
unfolding pointed numbered
returns-in-Some-Path c =
    let which : c.in-Some-Path.field-0 ≡ Pointer.Path = rw c.in-Some-Path.is at c.in-Some-Path.field-0-is in
    sym (ap pointed c.in-Some-Path.is ∙ ap numbered which)

pub returns-in-Some-From : goal.returns-in-Some-From
unfolding pointed numbered
returns-in-Some-From c =
    let which : c.in-Some-From.field-0 ≡ Pointer.From = rw c.in-Some-From.is at c.in-Some-From.field-0-is in
    sym (ap pointed c.in-Some-From.is ∙ ap numbered which)

pub returns-in-None : goal.returns-in-None
unfolding pointed numbered
returns-in-None c = sym (ap pointed c.in-None.is)
