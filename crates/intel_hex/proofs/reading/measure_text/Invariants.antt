use Rattle.std.proofs.Common.{length}
use Rattle.intel_hex.proofs.ReadLaws.{Measuring}
use Rattle.intel_hex.proofs.reading.measure_text.Given as goal

abbrev pub invariant-loop-rest : goal.invariant-loop-rest
invariant-loop-rest l = Measuring l.s l.rest l.line l.n

abbrev pub decreases-loop-rest : goal.decreases-loop-rest
decreases-loop-rest l = length l.rest
