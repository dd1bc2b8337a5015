-- `operation_right` meets its contract, by the kind and then the other members.
use Rattle.shape.specs.Operation as Operation
use Rattle.shape.specs.Kinds.{kind_outcome}
use mathlib.Core.Path.{ap}
use Rattle.shape.proofs.AnswerLaws.{kind_refused, kind_known}
use Rattle.shape.proofs.operation.operation_right.Goals as goal

pub returns-in_default : goal.returns-in_default
unfolding kind_outcome
returns-in_default c =
    record {
      number = Operation.shape;
      held = λ e kids n. kind_refused _ ((c.kind_at.ensures c.members_of-members.ensures.op).held e kids n) (ap kind_outcome c.in_default.is);
    }

pub returns : goal.returns
unfolding kind_outcome
returns c =
    let rest = c.members_right.ensures _ c.members_of-members.ensures in
    record {
      number = rest.number;
      held = λ e kids n.
          kind_known _ ((c.kind_at.ensures c.members_of-members.ensures.op).held e kids n) (ap kind_outcome c.in-Some.is) (rest.held e kids n);
    }
