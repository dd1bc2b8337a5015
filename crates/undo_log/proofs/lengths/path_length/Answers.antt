-- `path_length` meets its contract: two quotation marks are added. Assumes nothing.
use native.Mathlib.Omega.{arith}
use Rattle.tape.specs.Lent.{both}
use Rattle.undo_log.proofs.OperationLaws.{path_length}
use Rattle.undo_log.proofs.lengths.path_length.Goals as goal

pub returns : goal.returns
returns c = let marks = path_length (both c.args.texts) c.args.target in
    omega (arith, marks, c.joined.ensures, c.target_length.ensures)
