-- `string_in` meets its contract, by the row and its kind.
use mathlib.Core.Path.{sym, ◌∙◌}
use Rattle.shape.proofs.MemberLaws.{in_none, in_out, in_other, in-string}
use Rattle.shape.proofs.members.string_in.Goals as goal

pub returns-in_default : goal.returns-in_default
returns-in_default c = in_none _ c.in_default.is

pub returns-then-nodes-at : goal.returns-then-nodes-at
returns-then-nodes-at c = in_out _ _ c.in-Some.is c.if-nodes-at.true

pub returns-then-kind_in-ne-STRING : goal.returns-then-kind_in-ne-STRING
returns-then-kind_in-ne-STRING c = in_other _ _ c.in-Some.is (λ e. c.if-kind_in-ne-STRING.true (c.kind_in.ensures ∙ e))

pub returns : goal.returns
returns c = in-string _ _ c.in-Some.is (sym c.kind_in.ensures ∙ c.if-kind_in-ne-STRING.false) c.value_of.ensures
