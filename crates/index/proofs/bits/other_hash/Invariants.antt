use Prim.Native.Nat.{◌-◌}
use mathlib.Core.Path.{◌≡◌}
use lib.ListN.{length}
use Rattle.text.specs.Decode.{text_from}
use Rattle.index.specs.Bits.{other_hash_from, other_hash}
use Rattle.index.proofs.bits.other_hash.Given as goal

abbrev pub invariant-loop-c : goal.invariant-loop-c
invariant-loop-c l = other_hash_from l.h (text_from l.form l.s l.at) ≡ other_hash (text_from l.form l.s l.start)

abbrev pub decreases-loop-c : goal.decreases-loop-c
decreases-loop-c l = length l.s - l.at
