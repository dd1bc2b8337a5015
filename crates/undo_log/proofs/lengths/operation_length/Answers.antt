-- `operation_length` meets its contract: it is the sum of its three pieces'. Assumes nothing.
use native.Mathlib.Omega.{arith}
use Rattle.tape.specs.Lent.{both}
use Rattle.undo_log.proofs.OperationLaws.{note_length}
use Rattle.undo_log.proofs.lengths.operation_length.Goals as goal

pub returns : goal.returns
returns c o k = let texts = both c.args.texts in
    let whole = note_length texts c.args.action c.args.target o in
    let ending = c.ending_length.ensures o k in
    omega (arith, whole, c.head_length.ensures, c.path_length.ensures, ending, c.joined-first.ensures, c.joined.ensures)
