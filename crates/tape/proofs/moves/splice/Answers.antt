-- `tape::moves::splice` meets its contract. Assumes nothing.
use native.Mathlib.Omega.{arith}
use mathlib.Core.Path.{refl, sym, ap, ◌∙◌}
use Rattle.tape.specs.Columns.{moved}
use Rattle.tape.proofs.Columns.{spliced_not_used, spliced_no_room, spliced_no_source}
use Rattle.tape.proofs.Loops.{two_moves}
use Rattle.tape.proofs.moves.splice.Goals.{then-kept-at-via-then-kept-at, then-kept-at-via-else-kept-at+then-source-used, then-kept-at-via-else-kept-at+else-source-used+then-source-kept, then-kept-at-via-else-kept-at+else-source-used+else-source-kept+then-not-inside}
use Rattle.tape.proofs.moves.splice.Goals as goal

pub returns-in_default : goal.returns-in_default
returns-in_default c = sym (spliced_not_used _ _ _ _ _ _ (omega (arith, c.in_default.ensures)))

pub returns-then-kept-at : goal.returns-then-kept-at
returns-then-kept-at c = elim c.then-kept-at.branch [
  | then-kept-at-via-then-kept-at w ↦ sym (spliced_not_used _ _ _ _ _ _ (omega (arith, c.in-Some.ensures)))
  | then-kept-at-via-else-kept-at+then-source-used w ↦ sym (spliced_no_room _ _ _ _ _ _ (omega (arith, c.in-Some.ensures)))
  | then-kept-at-via-else-kept-at+else-source-used+then-source-kept w ↦ sym (spliced_no_room _ _ _ _ _ _ (omega (arith, c.in-Some.ensures)))
  | then-kept-at-via-else-kept-at+else-source-used+else-source-kept+then-not-inside w ↦ sym (spliced_no_source _ _ _ _ _ _ (omega (arith, w.if-not-inside.ensures)))
]

pub returns : goal.returns
returns c =
    let kept = c.in-Some.ensures in
    c.slide-2.ensures ∙ ap (λ m. moved m c.args.at c.args.source c.args.count) (c.slide.ensures ∙ rw kept.1 refl)
    ∙ two_moves c.args.nodes.now c.args.used c.args.at c.args.removed c.args.source c.args.count (omega (arith, kept))
    (record { before = omega (arith, kept); after = omega (arith, kept); there = omega (arith, c.if-not-inside.ensures) })
