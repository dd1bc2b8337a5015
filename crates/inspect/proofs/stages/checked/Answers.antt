-- `checked` meets its contract, by the patch's length and by what is read of it.
use native.Mathlib.Omega.{arith}
use mathlib.Core.Path.{◌∙◌, sym}
use Rattle.spec.specs.Fault.{number_of}
use Rattle.inspection.proofs.InspectionLaws.{inspection_long}
use Rattle.inspect.specs.Stages.{told_of}
use Rattle.inspect.proofs.StageLaws.{text_unread, text_shaped}
use Rattle.inspect.proofs.stages.checked.Goals as goal

pub returns-then-texts-gt-MAX_BYTES : goal.returns-then-texts-gt-MAX_BYTES
unfolding told_of number_of
returns-then-texts-gt-MAX_BYTES c h i = c.refused.ensures ∙ sym (inspection_long _ (omega arith))

pub returns-in_err-read_patch : goal.returns-in_err-read_patch
returns-in_err-read_patch c h i = text_unread h i (omega arith) c.read_patch.ensures _ c.in_err-read_patch.was c.from_residual.ensures.1

pub returns : goal.returns
returns c h i = text_shaped h i (omega arith) c.read_patch.ensures _ c.in_ok-read_patch.was c.shaped.ensures
