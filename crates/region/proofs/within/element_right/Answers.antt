-- `element_right` meets its contract: the kind, the other members, and then the rule.
use Rattle.spec.specs.Bytes.{ascii}
use Rattle.spec.proofs.FaultLaws.{handed}
use mathlib.Core.Path.{refl}
use Rattle.shape.proofs.AnswerLaws.{members-no_path, members-others}
use Rattle.region.proofs.WithinLaws.{path_judged, element_unknown, element_malformed, element_other, element_outside, element_inside}
use Rattle.region.proofs.within.element_right.Goals as goal

pub returns-in_default : goal.returns-in_default
unfolding ascii
returns-in_default c = element_unknown _ c.kind_of.ensures c.in_default.is

pub returns-in_default-string_member : goal.returns-in_default-string_member
unfolding ascii
returns-in_default-string_member c =
    element_malformed _ c.kind_of.ensures c.in-Some.is (members-no_path c.string_member.ensures c.in_default-string_member.is) refl

pub returns-in_err-others_right : goal.returns-in_err-others_right
unfolding ascii
returns-in_err-others_right c =
    rw (handed _ c.from_residual.ensures.1)
    (element_malformed _ c.kind_of.ensures c.in-Some.is (members-others c.string_member.ensures _ c.in-Some-string_member.is c.others_right.ensures)
    c.in_err-others_right.was)

pub returns-then-not-kind_permitted : goal.returns-then-not-kind_permitted
unfolding ascii
returns-then-not-kind_permitted c =
    element_other _ c.kind_of.ensures c.in-Some.is (members-others c.string_member.ensures _ c.in-Some-string_member.is c.others_right.ensures)
    c.in_ok-others_right.was c.kind_permitted.ensures c.if-not-kind_permitted.true

pub returns-then-not-contains : goal.returns-then-not-contains
unfolding ascii
returns-then-not-contains c =
    element_outside _ c.kind_of.ensures c.in-Some.is (members-others c.string_member.ensures _ c.in-Some-string_member.is c.others_right.ensures)
    c.in_ok-others_right.was c.kind_permitted.ensures
    (path_judged c.string_member.ensures _ c.in-Some-string_member.is c.part.ensures c.contains.ensures)
    c.if-not-kind_permitted.false c.if-not-contains.true

pub returns : goal.returns
unfolding ascii
returns c =
    element_inside _ c.kind_of.ensures c.in-Some.is (members-others c.string_member.ensures _ c.in-Some-string_member.is c.others_right.ensures)
    c.in_ok-others_right.was c.kind_permitted.ensures
    (path_judged c.string_member.ensures _ c.in-Some-string_member.is c.part.ensures c.contains.ensures)
    c.if-not-kind_permitted.false c.if-not-contains.false
