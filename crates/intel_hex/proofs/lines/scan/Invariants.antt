use Rattle.intel_hex.proofs.LineLaws.{Scanning}
use Rattle.intel_hex.proofs.lines.scan.Given as goal

abbrev pub invariant-loop-i : goal.invariant-loop-i
invariant-loop-i l = Scanning l.n l.t l.k l.sum l.i
