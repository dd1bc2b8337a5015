-- The sums are those of the names that were read.
use Rattle.std.proofs.Common.{◌≡◌, length}
use Rattle.patch_count.specs.Sums.{Sums}
use Rattle.patch_count.proofs.read_names.Given as goal

abbrev pub invariant-loop : goal.invariant-loop
invariant-loop g l = (length l.chunk ≡ length l.initial.chunk) × (length l.name ≡ length l.initial.name) × Sums l.state.tally
