-- `ending_length` meets its contract, by the value that the action has. Assumes nothing.
use mathlib.Core.Path.{sym, ap, ◌∙◌}
use lib.ListN.{length}
use Rattle.undo_log.specs.Pieces.{capped}
use Rattle.undo_log.proofs.OperationLaws.{valued, bare, ending-valued, ending-bare}
use Rattle.undo_log.proofs.lengths.ending_length.Goals as goal

pub returns-in-Add : goal.returns-in-Add
returns-in-Add c o k = let v = valued _ _ o k c.in-Add.is in
    c.value_length.ensures o.value v.held ∙ ap (λ b. capped (length b)) (sym (ending-valued v))

pub returns-in-Remove : goal.returns-in-Remove
returns-in-Remove c o k = ap (λ b. capped (length b)) (sym (ending-bare o (bare _ _ o k c.in-Remove.is)))
