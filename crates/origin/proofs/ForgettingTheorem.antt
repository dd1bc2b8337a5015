-- With origins forgotten, everything is the plain definition: specs/Forgetting.
use Rattle.origin.specs.Forgetting.{ForgettingStatement}
use Rattle.origin.proofs.ForgetLaws.{forget-painted, forget-walk, forget-perform, forget-limited}
use Rattle.origin.proofs.ForgetMerge.{forget-merge_patch}
use Rattle.origin.proofs.RunLaws.{forget-run}
use Rattle.origin.proofs.AnswerLaws.{answer_lists, merge_lists, lists_same, undo_same}

pub forgetting : ForgettingStatement
forgetting =
    record {
      paints = forget-painted;
      walks = forget-walk;
      performs = forget-perform;
      limits = forget-limited;
      runs = forget-run;
      merges = forget-merge_patch;
      answers = answer_lists;
      merge_answers = merge_lists;
      same_answer = λ document patch lent long. lists_same (answer_lists document patch lent) long;
      same_merge = λ document patch lent long. lists_same (merge_lists document patch lent) long;
      same_undo = undo_same;
    }
