use Rattle.std.proofs.Common.{length}
use Rattle.intel_hex.proofs.ReadLaws.{Pouring}
use Rattle.intel_hex.proofs.reading.put_text.Given as goal

abbrev pub invariant-loop-rest : goal.invariant-loop-rest
invariant-loop-rest l = Pouring l.s l.initial.out l.out l.rest l.end

abbrev pub decreases-loop-rest : goal.decreases-loop-rest
decreases-loop-rest l = length l.rest
