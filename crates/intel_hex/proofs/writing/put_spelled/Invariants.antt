use Rattle.std.proofs.Common.{◌≡◌, ◌+◌, ◌*◌, drop}
use Rattle.text.proofs.LaidLaws.{Laid}
use Rattle.intel_hex.specs.Record.{digits_of}
use Rattle.intel_hex.proofs.writing.put_spelled.Given as goal

abbrev pub invariant-loop-b : goal.invariant-loop-b
invariant-loop-b l = (l.end ≡ l.at + 2 * l.b-index) × Laid l.at (digits_of l.bytes) (digits_of (drop l.b-index l.bytes)) l.initial.out l.out l.end
