-- `perform` meets its contract, by the members that are found and by the operation's kind.
use mathlib.Core.Path.{refl, ap}
use Rattle.spec.specs.Operation as Operation
use Rattle.spec.specs.Patch.{uses_value}
use Rattle.shape.specs.Kinds.{spec_kind, kind_outcome}
use Rattle.shape.proofs.MemberLaws.{string-is}
use Rattle.operations.proofs.AnswerLaws.{or_there, or_missing}
use Rattle.operations.proofs.PerformLaws.{path_missing, op_missing, kind_listed, known_as, of_known, unknown}
use Rattle.operations.proofs.PerformLaws.{value-missing, add_done, remove_done, replace_done, test_done}
use Rattle.operations.proofs.perform.perform.Goals as goal

pub returns-in_err-path : goal.returns-in_err-path
returns-in_err-path c =
    path_missing (string-is c.members_of-members.ensures.path c.string_in.ensures) (or_missing c.ok_or.ensures.ok_part c.in_err-path.was)

pub returns-in_err-word : goal.returns-in_err-word
returns-in_err-word c =
    op_missing (string-is c.members_of-members.ensures.op c.string_in-2.ensures) (or_missing c.ok_or-2.ensures.ok_part c.in_err-word.was)

pub returns-in_err-kind : goal.returns-in_err-kind
unfolding kind_outcome
returns-in_err-kind c =
    unknown (string-is c.members_of-members.ensures.path c.string_in.ensures)
    (kind_listed (string-is c.members_of-members.ensures.op c.string_in-2.ensures) _ (or_there c.ok_or-2.ensures.ok_part c.in_ok-word.was)
    c.kind_named.result c.kind_named.ensures)
    (ap kind_outcome (or_missing c.ok_or-3.ensures.ok_part c.in_err-kind.was))

pub returns-in_err-value-in-Add : goal.returns-in_err-value-in-Add
unfolding spec_kind uses_value
returns-in_err-value-in-Add c =
    of_known (string-is c.members_of-members.ensures.path c.string_in.ensures)
    (kind_listed (string-is c.members_of-members.ensures.op c.string_in-2.ensures) _ (or_there c.ok_or-2.ensures.ok_part c.in_ok-word.was)
    c.kind_named.result c.kind_named.ensures)
    Operation.add _ (or_there c.ok_or.ensures.ok_part c.in_ok-path.was) (known_as c.ok_or-3.ensures.ok_part c.in_ok-kind.was c.in-Add.is) tt
    (value-missing c.members_of-members.ensures.value {Number = λ op. Unit {0}} refl (or_missing c.ok_or-in-Add.ensures.ok_part c.in_err-value-in-Add.was))

pub returns-in_ok-value-in-Add : goal.returns-in_ok-value-in-Add
unfolding spec_kind uses_value
returns-in_ok-value-in-Add c =
    of_known (string-is c.members_of-members.ensures.path c.string_in.ensures)
    (kind_listed (string-is c.members_of-members.ensures.op c.string_in-2.ensures) _ (or_there c.ok_or-2.ensures.ok_part c.in_ok-word.was)
    c.kind_named.result c.kind_named.ensures)
    Operation.add _ (or_there c.ok_or.ensures.ok_part c.in_ok-path.was) (known_as c.ok_or-3.ensures.ok_part c.in_ok-kind.was c.in-Add.is) tt
    (add_done c.members_of-members.ensures.value _ (or_there c.ok_or-in-Add.ensures.ok_part c.in_ok-value-in-Add.was) c.change_at.ensures c.told.ensures)

pub returns-in-Remove : goal.returns-in-Remove
unfolding spec_kind uses_value
returns-in-Remove c =
    of_known (string-is c.members_of-members.ensures.path c.string_in.ensures)
    (kind_listed (string-is c.members_of-members.ensures.op c.string_in-2.ensures) _ (or_there c.ok_or-2.ensures.ok_part c.in_ok-word.was)
    c.kind_named.result c.kind_named.ensures)
    Operation.remove _ (or_there c.ok_or.ensures.ok_part c.in_ok-path.was) (known_as c.ok_or-3.ensures.ok_part c.in_ok-kind.was c.in-Remove.is) tt
    (remove_done c.change_at-in-Remove.ensures c.told-in-Remove.ensures)

pub returns-in_err-value-in-Replace : goal.returns-in_err-value-in-Replace
unfolding spec_kind uses_value
returns-in_err-value-in-Replace c =
    of_known (string-is c.members_of-members.ensures.path c.string_in.ensures)
    (kind_listed (string-is c.members_of-members.ensures.op c.string_in-2.ensures) _ (or_there c.ok_or-2.ensures.ok_part c.in_ok-word.was)
    c.kind_named.result c.kind_named.ensures)
    Operation.replace _ (or_there c.ok_or.ensures.ok_part c.in_ok-path.was) (known_as c.ok_or-3.ensures.ok_part c.in_ok-kind.was c.in-Replace.is) tt
    (value-missing c.members_of-members.ensures.value {Number = λ op. Unit {0}} refl (or_missing c.ok_or-in-Replace.ensures.ok_part c.in_err-value-in-Replace.was))

pub returns-in_ok-value-in-Replace : goal.returns-in_ok-value-in-Replace
unfolding spec_kind uses_value
returns-in_ok-value-in-Replace c =
    of_known (string-is c.members_of-members.ensures.path c.string_in.ensures)
    (kind_listed (string-is c.members_of-members.ensures.op c.string_in-2.ensures) _ (or_there c.ok_or-2.ensures.ok_part c.in_ok-word.was)
    c.kind_named.result c.kind_named.ensures)
    Operation.replace _ (or_there c.ok_or.ensures.ok_part c.in_ok-path.was) (known_as c.ok_or-3.ensures.ok_part c.in_ok-kind.was c.in-Replace.is) tt
    (replace_done c.members_of-members.ensures.value _ (or_there c.ok_or-in-Replace.ensures.ok_part c.in_ok-value-in-Replace.was) c.change_at-in-Replace.ensures c.told-in-Replace.ensures)

pub returns-in-Move : goal.returns-in-Move
unfolding spec_kind uses_value
returns-in-Move c =
    of_known (string-is c.members_of-members.ensures.path c.string_in.ensures)
    (kind_listed (string-is c.members_of-members.ensures.op c.string_in-2.ensures) _ (or_there c.ok_or-2.ensures.ok_part c.in_ok-word.was)
    c.kind_named.result c.kind_named.ensures)
    Operation.move _ (or_there c.ok_or.ensures.ok_part c.in_ok-path.was) (known_as c.ok_or-3.ensures.ok_part c.in_ok-kind.was c.in-Move.is) tt
    (c.move_to.ensures _ c.members_of-members.ensures.from)

pub returns-in-Copy : goal.returns-in-Copy
unfolding spec_kind uses_value
returns-in-Copy c =
    of_known (string-is c.members_of-members.ensures.path c.string_in.ensures)
    (kind_listed (string-is c.members_of-members.ensures.op c.string_in-2.ensures) _ (or_there c.ok_or-2.ensures.ok_part c.in_ok-word.was)
    c.kind_named.result c.kind_named.ensures)
    Operation.copy _ (or_there c.ok_or.ensures.ok_part c.in_ok-path.was) (known_as c.ok_or-3.ensures.ok_part c.in_ok-kind.was c.in-Copy.is) refl
    (c.copy.ensures _ c.members_of-members.ensures.from)

pub returns-in_err-value-in-Test : goal.returns-in_err-value-in-Test
unfolding spec_kind uses_value
returns-in_err-value-in-Test c =
    of_known (string-is c.members_of-members.ensures.path c.string_in.ensures)
    (kind_listed (string-is c.members_of-members.ensures.op c.string_in-2.ensures) _ (or_there c.ok_or-2.ensures.ok_part c.in_ok-word.was)
    c.kind_named.result c.kind_named.ensures)
    Operation.test _ (or_there c.ok_or.ensures.ok_part c.in_ok-path.was) (known_as c.ok_or-3.ensures.ok_part c.in_ok-kind.was c.in-Test.is) tt
    (value-missing c.members_of-members.ensures.value {Number = λ op. Unit {0}} refl (or_missing c.ok_or-in-Test.ensures.ok_part c.in_err-value-in-Test.was))

pub returns-in_ok-value-in-Test : goal.returns-in_ok-value-in-Test
unfolding spec_kind uses_value
returns-in_ok-value-in-Test c =
    of_known (string-is c.members_of-members.ensures.path c.string_in.ensures)
    (kind_listed (string-is c.members_of-members.ensures.op c.string_in-2.ensures) _ (or_there c.ok_or-2.ensures.ok_part c.in_ok-word.was)
    c.kind_named.result c.kind_named.ensures)
    Operation.test _ (or_there c.ok_or.ensures.ok_part c.in_ok-path.was) (known_as c.ok_or-3.ensures.ok_part c.in_ok-kind.was c.in-Test.is) tt
    (test_done c.members_of-members.ensures.value _ (or_there c.ok_or-in-Test.ensures.ok_part c.in_ok-value-in-Test.was) c.equal_to.ensures c.told-in-Test.ensures)
