use Prim.Native.Nat.{ℕ, ◌+◌, ◌-◌, ◌≤◌, ◌<◌}
use mathlib.Core.Path.{◌≡◌}
use Rattle.lexer.specs.States.{block, look_over}
use Rattle.lexer.proofs.verbatim.after_block.Given as goal

abbrev pub invariant-loop-place : goal.invariant-loop-place
invariant-loop-place l =
    (l.state < 64) × (l.at ≤ l.place) × ((left : ℕ) → l.at + block ≡ l.place + left →
    look_over l.columns l.steps left l.state l.s l.place ≡ look_over l.columns l.steps block l.first l.s l.at)
