use Prim.Native.Nat.{◌-◌, ◌≤◌}
use Rattle.text.proofs.StoreLaws.{Copied}
use Rattle.text.proofs.write.put_bytes.Given as goal

abbrev pub invariant-loop-i : goal.invariant-loop-i
invariant-loop-i l = (l.i ≤ l.n) × Copied l.s l.initial.out l.at l.i l.out

abbrev pub decreases-loop-i : goal.decreases-loop-i
decreases-loop-i l = l.n - l.i
