-- Each turn begins behind a name, and the sums are those of the names before it. What is left is no longer than the part.
use Rattle.std.proofs.Common.{◌≡◌, ◌≤◌, length}
use Rattle.patch_count.specs.Sums.{Sums}
use Rattle.patch_count.proofs.names.feed.Given as goal

abbrev pub invariant-loop-end : goal.invariant-loop-end
invariant-loop-end g l =
    (length l.rest ≤ length l.initial.rest) × (length l.name ≡ length l.initial.name) × Sums l.s.tally

abbrev pub decreases-loop-end : goal.decreases-loop-end
decreases-loop-end g l = length l.rest
