use Prim.Native.Nat.{◌-◌, ◌≤◌}
use mathlib.Core.Path.{◌≡◌}
use lib.ListN.{length, drop}
use Rattle.spec.specs.Value.{same_text}
use Rattle.text.specs.Decode.{text_from, text_of}
use Rattle.text.proofs.compare.same_ascii.Given as goal

abbrev pub invariant-loop-c : goal.invariant-loop-c
invariant-loop-c l = (l.j ≤ length l.constant) × (same_text (text_from l.form l.a l.i) (drop l.j l.constant) ≡ same_text (text_of l.form l.a) l.constant)

abbrev pub decreases-loop-c : goal.decreases-loop-c
decreases-loop-c l = length l.a - l.i
