-- `path_right` meets its contract, by the test on the pointer.
use mathlib.Core.Bool.{true, false}
use Rattle.shape.specs.Operation as Operation
use Rattle.shape.proofs.AnswerLaws.{pointer_is, path_malformed, path_alone}
use Rattle.shape.proofs.operation.path_right.Goals as goal

pub returns-then-not-is_pointer : goal.returns-then-not-is_pointer
returns-then-not-is_pointer c = record {
  number = Operation.pointer;
  held = λ k is v. path_malformed _ (pointer_is c.part-to.ensures c.is_pointer.ensures false c.if-not-is_pointer.true);
}

pub returns : goal.returns
returns c = record {
  number = Operation.nothing;
  held = λ k is v. path_alone k _ v is (pointer_is c.part-to.ensures c.is_pointer.ensures true c.if-not-is_pointer.false);
}
