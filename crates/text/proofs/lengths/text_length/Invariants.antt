use Prim.Native.Nat.{◌+◌, ◌-◌}
use mathlib.Core.Path.{◌≡◌}
use lib.ListN.{length}
use Rattle.spec.specs.Write.{write_characters}
use Rattle.text.specs.Decode.{text_from, text_of}
use Rattle.text.proofs.lengths.text_length.Given as goal

abbrev pub invariant-loop-c : goal.invariant-loop-c
invariant-loop-c l = l.total + length (write_characters (text_from l.form l.s l.at)) ≡ length (write_characters (text_of l.form l.s))

abbrev pub decreases-loop-c : goal.decreases-loop-c
decreases-loop-c l = length l.s - l.at
