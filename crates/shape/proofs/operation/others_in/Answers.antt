-- `others_in` meets its contract, member by member.
use mathlib.Core.Path.{sym, ap, ◌∙◌}
use borrow.Author.Tests.{not-true, not-false}
use Rattle.spec.specs.Patch.{uses_value, uses_from, is_move}
use Rattle.spec.proofs.FaultLaws.{handed}
use Rattle.shape.specs.Operation as Operation
use Rattle.shape.specs.declared.kinds.Uses.{Uses}
use Rattle.shape.proofs.KindLaws.{asked}
use Rattle.shape.proofs.MemberLaws.{string-is}
use Rattle.shape.proofs.AnswerLaws.{text_refused, text_decoded, from_none, from_text, value-refused, from_missing, members-there}
use Rattle.shape.proofs.operation.others_in.Goals as goal

pub returns-in_err-value_right : goal.returns-in_err-value_right
returns-in_err-value_right c =
    rw (handed _ c.from_residual.ensures.1) (λ row found. record {
      number = c.in_err-value_right.ensures.number;
      held = λ k known e kids n p.
          let value = c.value_right.ensures.held _ (asked uses_value (ap (λ (u : Uses). u.value) c.uses_of-uses.ensures) known) _ row found.value e kids n in
          value-refused _ _ p value c.in_err-value_right.was;
    })

pub returns-then-not-uses : goal.returns-then-not-uses
returns-then-not-uses c =
    λ row found. record {
      number = c.path_right.ensures.number;
      held = λ k known e kids n p.
          let unused = sym (asked uses_from (ap (λ (u : Uses). u.from) c.uses_of-uses.ensures) known) ∙ not-true _ c.if-not-uses.true in
          let value = c.value_right.ensures.held _ (asked uses_value (ap (λ (u : Uses). u.value) c.uses_of-uses.ensures) known) _ row found.value e kids n in
          members-there _ _ p value c.in_ok-value_right.was
          (from_none _ _ unused) (c.path_right.ensures.held _ unused);
    }

pub returns-in_default : goal.returns-in_default
returns-in_default c =
    λ row found. record {
      number = Operation.shape;
      held = λ k known e kids n p.
          let used = sym (asked uses_from (ap (λ (u : Uses). u.from) c.uses_of-uses.ensures) known) ∙ not-false _ c.if-not-uses.false in
          let value = c.value_right.ensures.held _ (asked uses_value (ap (λ (u : Uses). u.value) c.uses_of-uses.ensures) known) _ row found.value e kids n in
          from_missing _ _ p value c.in_ok-value_right.was
          (text_refused (from_text _ _ used ((string-is found.from c.string_in.ensures).held e kids n)) c.in_default.is);
    }

pub returns : goal.returns
returns c =
    λ row found. record {
      number = c.pointers_right.ensures.number;
      held = λ k known e kids n p.
          let used = sym (asked uses_from (ap (λ (u : Uses). u.from) c.uses_of-uses.ensures) known) ∙ not-false _ c.if-not-uses.false in
          let value = c.value_right.ensures.held _ (asked uses_value (ap (λ (u : Uses). u.value) c.uses_of-uses.ensures) known) _ row found.value e kids n in
          members-there _ _ p value c.in_ok-value_right.was
          (text_decoded (from_text _ _ used ((string-is found.from c.string_in.ensures).held e kids n)) _ c.in-Some.is)
          (c.pointers_right.ensures.held _ (asked is_move (ap (λ (u : Uses). u.moves) c.uses_of-uses.ensures) known));
    }
