-- `value_right` meets its contract, by whether a value is used, and whether there is one.
use mathlib.Core.Path.{sym, ◌∙◌}
use Rattle.shape.specs.Operation as Operation
use Rattle.shape.proofs.AnswerLaws.{value-unused, value-missing, value_there}
use Rattle.shape.proofs.operation.value_right.Goals as goal
use Rattle.shape.proofs.operation.value_right.Goals.{else-used-via-then-used+else-is_none, else-used-via-else-used}

pub returns-then-is_none : goal.returns-then-is_none
returns-then-is_none c =
    record { number = Operation.shape; held = λ k is w row found e kids n. value-missing k _ (sym is ∙ c.if-used.true) (found.held e kids n) c.if-is_none.ensures }

pub returns : goal.returns
returns c = record {
  number = Operation.nothing;
  held = λ k is w row found e kids n. elim c.else-used.branch [
    | else-used-via-then-used+else-is_none b ↦ value_there k _ (sym is ∙ b.if-used.true) (found.held e kids n) b.if-is_none.ensures
    | else-used-via-else-used b ↦ value-unused k _ (sym is ∙ b.if-used.false)
  ];
}
