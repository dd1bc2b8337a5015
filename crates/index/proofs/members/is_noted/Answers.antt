-- `is_noted` meets its contract.
use mathlib.Core.Path.{sym, ap, ◌∙◌}
use mathlib.Core.Bool.{true≢false}
use native.Mathlib.Omega.{arith}
use Rattle.tape.specs.Fields.{name_of}
use Rattle.tape.specs.Lent.{both}
use Rattle.table.specs.Find.{same_name}
use Rattle.index.specs.Slots.{slot_at}
use Rattle.index.proofs.members.is_noted.Goals as goal

pub returns-then-slot-object : goal.returns-then-slot-object
returns-then-slot-object c = λ e. absurd (true≢false (sym e))

pub returns : goal.returns
returns c =
    let own = c.name_of.ensures ∙ ap name_of c.load.ensures in
    λ e.
    record {
      parent = ap (slot_at c.args.index.now) (sym c.parent.ensures) ∙ sym c.slot.ensures ∙ omega (arith, c.if-slot-object.false);
      named = ap (λ n. same_name (both c.args.texts) n c.args.name) (sym own) ∙ sym c.same_name.ensures ∙ e;
    }
