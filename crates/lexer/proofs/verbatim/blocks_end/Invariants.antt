use Prim.Native.Nat.{◌-◌, ◌<◌}
use mathlib.Core.Bool.{Bool}
use lib.ListN.{length}
use Rattle.lexer.specs.Verbatim.{Verbatim}
use Rattle.lexer.specs.States.{Tables}
use Rattle.lexer.proofs.StateLaws.{Gone}
use Rattle.lexer.proofs.verbatim.blocks_end.Given as goal

abbrev pub invariant-loop-at : goal.invariant-loop-at
invariant-loop-at l =
    (l.state < 64) × ((escapes : Bool) → Tables escapes l.columns l.steps → Gone escapes l.s l.start l.at l.state × Verbatim escapes l.s l.start l.end)

abbrev pub decreases-loop-at : goal.decreases-loop-at
decreases-loop-at l = length l.s - l.at
