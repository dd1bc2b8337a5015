-- `plus` meets its contract: no sum passes that of all.
use borrow.Author.Rules.{rules}
use Rattle.inspection.specs.Inspection.{plus, total}
use Rattle.inspect.proofs.counts.plus.Goals as goal

pub overflow_add-result : goal.overflow_add-result
unfolding plus total
overflow_add-result c = search rules

pub overflow_add-result-2 : goal.overflow_add-result-2
unfolding plus total
overflow_add-result-2 c = search rules

pub overflow_add-result-3 : goal.overflow_add-result-3
unfolding plus total
overflow_add-result-3 c = search rules

pub overflow_add-result-4 : goal.overflow_add-result-4
unfolding plus total
overflow_add-result-4 c = search rules

pub overflow_add-result-5 : goal.overflow_add-result-5
unfolding plus total
overflow_add-result-5 c = search rules

pub overflow_add-result-6 : goal.overflow_add-result-6
unfolding plus total
overflow_add-result-6 c = search rules

pub returns : goal.returns
unfolding plus total
returns c = search rules
