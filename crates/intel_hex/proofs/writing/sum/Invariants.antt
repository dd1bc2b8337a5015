use Rattle.std.proofs.Common.{◌≡◌, ◌+◌, ◌%◌, ◌<◌, drop}
use Rattle.intel_hex.specs.Record.{total}
use Rattle.intel_hex.proofs.writing.sum.Given as goal

abbrev pub invariant-loop-b : goal.invariant-loop-b
invariant-loop-b l = (l.sum < 256) × ((l.sum + total (drop l.b-index l.bytes)) % 256 ≡ (l.start + total l.bytes) % 256)
