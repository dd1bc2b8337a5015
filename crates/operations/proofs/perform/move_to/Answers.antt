-- `move_to` meets its contract: an operation that moves has a `from`.
use mathlib.Core.Path.{refl}
use Rattle.spec.specs.Patch.{uses_from}
use Rattle.shape.proofs.MemberLaws.{string-is}
use Rattle.operations.proofs.AnswerLaws.{or_there, or_missing}
use Rattle.operations.proofs.PerformLaws.{from_missing, move_done}
use Rattle.operations.proofs.perform.move_to.Goals as goal

pub returns-in_err-from : goal.returns-in_err-from
unfolding uses_from
returns-in_err-from c =
    λ row is. from_missing (string-is is c.string_in.ensures) refl (or_missing c.ok_or.ensures.ok_part c.in_err-from.was)

pub returns : goal.returns
unfolding uses_from
returns c =
    λ row is. move_done (string-is is c.string_in.ensures) _ (or_there c.ok_or.ensures.ok_part c.in_ok-from.was)
    c.move_value.ensures
