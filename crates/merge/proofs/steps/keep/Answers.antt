-- `keep` meets its contract, by the member of the patch that has the name.
use native.Mathlib.Omega.{arith}
use mathlib.Core.Path.{ap, ◌∙◌}
use Rattle.std.proofs.lemmas.Grind.{common_steps}
use Rattle.tape.specs.Fields.{name_of}
use Rattle.merge.proofs.StepLaws.{keep_missing, keep_outside, keep_found}
use Rattle.merge.proofs.steps.keep.Goals as goal

pub returns-in_default : goal.returns-in_default
returns-in_default c =
    keep_missing c.partner.ensures (c.name_of-name.ensures ∙ ap name_of c.load.ensures) c.in_default.is

pub returns-then-not-contains : goal.returns-then-not-contains
returns-then-not-contains c =
    keep_outside c.partner.ensures (c.name_of-name.ensures ∙ ap name_of c.load.ensures) _
    c.in-Some.is (λ l n. grind (arith, common_steps, l, n)) (omega (arith, c.requires))

pub returns : goal.returns
returns c =
    keep_found c.partner.ensures (c.name_of-name.ensures ∙ ap name_of c.load.ensures) _ c.in-Some.is
    (grind (arith, common_steps)) (grind (arith, common_steps)) c.put_note.ensures
    (omega (arith, c.partner.ensures.same_length, c.requires)) (omega arith) c.step_of.ensures
