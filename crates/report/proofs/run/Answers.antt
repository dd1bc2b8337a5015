-- `run` meets its contract: the call writes to the part of the line that it is lent, and what ends the line is laid down behind.
use native.Mathlib.Omega.{arith}
use mathlib.Core.Path.{sym}
use lib.Seq.{length-take-le}
use Rattle.report.proofs.LineLaws.{run_is}
use Rattle.report.proofs.run.Goals as goal

pub slice_bounds-apply-end-2 : goal.slice_bounds-apply-end-2
slice_bounds-apply-end-2 c = sym (length-take-le c.saturating_sub-room.result c.args.line.now
    (omega (arith, c.saturating_sub-room.ensures)))

pub returns : goal.returns
returns c =
    run_is _ _ c.saturating_sub-room.ensures c.apply-answer.ensures
    c.apply-answer.auto.output c.report.ensures (record {
      number = omega (arith, c.apply-answer.type_inv);
      text = omega (arith, c.apply-answer.type_inv);
      op = omega
          (arith, c.apply-answer.type_inv);
      place = omega (arith, c.apply-answer.type_inv);
      pointer = omega (arith, c.apply-answer.type_inv);
    })
