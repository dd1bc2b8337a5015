use Prim.Native.Nat.{◌-◌}
use mathlib.Core.Bool.{Bool}
use lib.ListN.{length}
use Rattle.pointer.specs.Tokens.{tokens_from}
use Rattle.pointer.specs.Prefix.{PrefixOf}
use Rattle.pointer.proofs.prefixes.prefix_from.Given as goal

abbrev pub invariant-loop-s : goal.invariant-loop-s
invariant-loop-s l =
    (r : Bool) → PrefixOf (tokens_from l.a l.i) (tokens_from l.b l.j) r → PrefixOf (tokens_from l.a l.start) (tokens_from l.b l.other) r

abbrev pub decreases-loop-s : goal.decreases-loop-s
decreases-loop-s l = length l.a - l.i
