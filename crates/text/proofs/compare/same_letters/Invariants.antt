use Prim.Native.Nat.{◌-◌}
use mathlib.Core.Path.{◌≡◌}
use lib.ListN.{length}
use Rattle.spec.specs.Value.{same_text}
use Rattle.text.specs.Decode.{text_from, text_of}
use Rattle.text.proofs.compare.same_letters.Given as goal

abbrev pub invariant-loop-i : goal.invariant-loop-i
invariant-loop-i l = same_text (text_from l.form l.a l.i) (text_from l.other l.b l.j) ≡ same_text (text_of l.form l.a) (text_of l.other l.b)

abbrev pub decreases-loop-i : goal.decreases-loop-i
decreases-loop-i l = length l.a - l.i
