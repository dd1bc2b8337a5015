use Rattle.intel_hex.proofs.WritingLaws.{Filling}
use Rattle.intel_hex.proofs.reading.put_data.Given as goal

abbrev pub invariant-loop-i : goal.invariant-loop-i
invariant-loop-i l = Filling l.n l.t l.at l.initial.out l.out l.i
