-- `print_report` prints no more than there is.
use native.Mathlib.Omega.{arith}
use Rattle.writer.proofs.PlacedLaws.{placed-length, placed-inside}
use Rattle.report.proofs.print_report.Goals as goal

pub slice_bounds-write_all-end : goal.slice_bounds-write_all-end
slice_bounds-write_all-end g c =
    omega (arith, placed-length c.report-n.ensures, placed-inside c.report-n.ensures)
