-- `kind_at` meets its contract, by the node's kind and the text of `op`.
use mathlib.Core.Path.{sym, ◌∙◌}
use Rattle.shape.proofs.MemberLaws.{string-is}
use Rattle.shape.proofs.AnswerLaws.{kind_other, op_refused, op_spelled}
use Rattle.shape.proofs.operation.kind_at.Goals as goal

pub returns-then-kind-ne-OBJECT : goal.returns-then-kind-ne-OBJECT
returns-then-kind-ne-OBJECT c = λ is. kind_other (λ e. c.if-kind-ne-OBJECT.true (c.kind.ensures ∙ e))

pub returns-in_default : goal.returns-in_default
returns-in_default c =
    λ is. op_refused (sym c.kind.ensures ∙ c.if-kind-ne-OBJECT.false) (string-is is c.string_in.ensures) c.in_default.is

pub returns : goal.returns
returns c =
    λ is. op_spelled (sym c.kind.ensures ∙ c.if-kind-ne-OBJECT.false) (string-is is c.string_in.ensures) _ c.in-Some.is
    c.kind_named.ensures
