use Prim.Native.Nat.{◌-◌}
use mathlib.Core.Path.{◌≡◌}
use lib.ListN.{length}
use Rattle.index.proofs.MemberLaws.{Indexing}
use Rattle.index.proofs.members.index_object.Given as goal

abbrev pub invariant-loop-row : goal.invariant-loop-row
invariant-loop-row l = (length l.index ≡ length l.initial.index) × Indexing l.nodes l.top l.object l.initial.index l.index l.row

abbrev pub decreases-loop-row : goal.decreases-loop-row
decreases-loop-row l = l.end - l.row
