use Rattle.fragment.proofs.ScanLaws.{Scanning}
use Rattle.fragment.proofs.scan.verdict_of.Given as goal

abbrev pub invariant-loop-b : goal.invariant-loop-b
invariant-loop-b l = Scanning l.s l.awaited l.syntax l.b-index
