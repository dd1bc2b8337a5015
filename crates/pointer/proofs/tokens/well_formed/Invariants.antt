use Prim.Native.Nat.{◌-◌}
use mathlib.Core.Path.{◌≡◌}
use lib.ListN.{length}
use Rattle.pointer.specs.Tokens.{accepted, tokens_from}
use Rattle.pointer.proofs.tokens.well_formed.Given as goal

abbrev pub invariant-loop-c : goal.invariant-loop-c
invariant-loop-c l = accepted (tokens_from l.part l.at) ≡ accepted (tokens_from l.part l.start)

abbrev pub decreases-loop-c : goal.decreases-loop-c
decreases-loop-c l = length l.part - l.at
