use Rattle.std.proofs.Common.{◌≡◌, ◌+◌, ◌-◌, ◌≤◌, length}
use Rattle.intel_hex.proofs.TextLaws.{Printing}
use Rattle.intel_hex.proofs.writing.put_hex.Given as goal

abbrev pub invariant-loop-at : goal.invariant-loop-at
invariant-loop-at l = (l.n ≡ length l.text) × (l.at ≤ length l.text + 15) × Printing l.text l.initial.out l.out l.end l.at

abbrev pub decreases-loop-at : goal.decreases-loop-at
decreases-loop-at l = l.n - l.at
