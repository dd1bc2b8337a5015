use Prim.Native.Nat.{◌-◌, ◌≤◌}
use mathlib.Core.Path.{◌≡◌}
use lib.ListN.{length}
use Rattle.text.specs.Decode.{text_from}
use Rattle.pointer.specs.Index.{digits_after}
use Rattle.pointer.proofs.indices.digits.Given as goal

abbrev pub invariant-loop-c : goal.invariant-loop-c
invariant-loop-c l = (l.value ≤ 65_536) × (digits_after l.value (text_from 3 l.part l.at) ≡ digits_after l.n (text_from 3 l.part l.start))

abbrev pub decreases-loop-c : goal.decreases-loop-c
decreases-loop-c l = length l.part - l.at
