use Prim.Native.Nat.{◌+◌, ◌-◌, ◌≤◌}
use lib.ListN.{length, drop}
use Rattle.text.proofs.StoreLaws.{Copied}
use Rattle.writer.proofs.copies.copy.Given as goal

abbrev pub invariant-loop-i : goal.invariant-loop-i
invariant-loop-i l =
    (l.i ≤ l.count) × (l.from + l.count ≤ length l.s) × (l.to + l.count ≤ length l.initial.out) × Copied (drop l.from l.s) l.initial.out l.to l.i l.out

abbrev pub decreases-loop-i : goal.decreases-loop-i
decreases-loop-i l = l.count - l.i
