-- `target_length` meets its contract, by those of its parts. Assumes nothing.
use native.Mathlib.Omega.{arith}
use mathlib.Core.Path.{ap}
use lib.ListN.{length}
use Rattle.tape.specs.Lent.{both}
use Rattle.undo_log.proofs.OperationLaws.{target_at, appended-length}
use Rattle.undo_log.proofs.lengths.target_length.Goals as goal

pub returns-in-At : goal.returns-in-At
returns-in-At c =
    let texts = both c.args.texts in
    let same = ap length (target_at texts c.args.target c.in-At.is c.part.ensures) in
    omega (arith, same, c.joined.ensures, c.written_length.ensures)

pub returns-in-Appended : goal.returns-in-Appended
returns-in-Appended c =
    let texts = both c.args.texts in
    let same = appended-length texts c.args.target c.in-Appended.is c.part-in-Appended.ensures in
    omega (arith, same, c.joined-in-Appended.ensures, c.written_length-in-Appended.ensures, c.digits_length.ensures)
