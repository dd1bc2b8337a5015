-- `pointers_right` meets its contract, by the tests on the two pointers.
use mathlib.Core.Path.{sym, ◌∙◌}
use mathlib.Core.Bool.{true, false}
use Rattle.shape.specs.Operation as Operation
use Rattle.shape.proofs.AnswerLaws.{pointer_is, prefix_is, path_malformed, from_malformed, no_move, into_child, not_into_child}
use Rattle.shape.proofs.operation.pointers_right.Goals as goal

pub returns-then-not-is_pointer : goal.returns-then-not-is_pointer
returns-then-not-is_pointer c =
    record {
      number = Operation.pointer;
      held = λ k is w. path_malformed _ (pointer_is c.part-to.ensures c.is_pointer.ensures false c.if-not-is_pointer.true);
    }

pub returns-then-not-is_pointer-2 : goal.returns-then-not-is_pointer-2
returns-then-not-is_pointer-2 c =
    record {
      number = Operation.pointer;
      held = λ k is w. from_malformed _ (pointer_is c.part-to.ensures c.is_pointer.ensures true c.if-not-is_pointer.false)
          (pointer_is c.part-source.ensures c.is_pointer-2.ensures false c.if-not-is_pointer-2.true);
    }

pub returns-then-not-moves : goal.returns-then-not-moves
returns-then-not-moves c =
    record {
      number = Operation.nothing;
      held = λ k is w. no_move _ (pointer_is c.part-to.ensures c.is_pointer.ensures true c.if-not-is_pointer.false)
          (pointer_is c.part-source.ensures c.is_pointer-2.ensures true c.if-not-is_pointer-2.false)
          (sym is ∙ c.if-not-moves.true);
    }

pub returns-then-proper_prefix : goal.returns-then-proper_prefix
returns-then-proper_prefix c =
    record {
      number = Operation.into_child;
      held = λ k is w. into_child _ (pointer_is c.part-to.ensures c.is_pointer.ensures true c.if-not-is_pointer.false)
          (pointer_is c.part-source.ensures c.is_pointer-2.ensures true c.if-not-is_pointer-2.false)
          (sym is ∙ c.if-not-moves.false)
          (prefix_is c.part-source.ensures c.part-to.ensures c.proper_prefix.ensures true c.if-proper_prefix.true);
    }

pub returns : goal.returns
returns c =
    record {
      number = Operation.nothing;
      held = λ k is w. not_into_child _ (pointer_is c.part-to.ensures c.is_pointer.ensures true c.if-not-is_pointer.false)
          (pointer_is c.part-source.ensures c.is_pointer-2.ensures true c.if-not-is_pointer-2.false)
          (sym is ∙ c.if-not-moves.false)
          (prefix_is c.part-source.ensures c.part-to.ensures c.proper_prefix.ensures false c.if-proper_prefix.false);
    }
