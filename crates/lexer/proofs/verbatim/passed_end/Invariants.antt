use Rattle.std.specs.Prelude.{if◌then◌else◌}
use Prim.Native.Nat.{◌-◌, ◌<◌}
use mathlib.Core.Bool.{Bool}
use lib.ListN.{length}
use lib.Dec.{eqb}
use Rattle.lexer.specs.States.{Tables}
use Rattle.lexer.proofs.StateLaws.{Going}
use Rattle.lexer.proofs.verbatim.passed_end.Given as goal

abbrev pub invariant-loop-at : goal.invariant-loop-at
invariant-loop-at l =
    (l.state < 64) × ((escapes : Bool) → Tables escapes l.columns l.steps → Going escapes l.s l.start (if eqb l.state 0 then l.at else l.end) l.at l.state)

abbrev pub decreases-loop-at : goal.decreases-loop-at
decreases-loop-at l = length l.s - l.at
