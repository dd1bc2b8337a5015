-- `tape::moves::slide` meets its contract. Assumes nothing.
use Prim.Native.Nat.{◌+◌, ◌-◌}
use native.Mathlib.Omega.{arith}
use mathlib.Core.Path.{◌≡◌, sym, ap, ◌∙◌}
use Rattle.tape.specs.Columns.{replaced, copied}
use Rattle.tape.proofs.Columns.{moved_in, moved_no_target, moved_no_source}
use Rattle.tape.proofs.Loops.{moved_same}
use Rattle.tape.proofs.moves.slide.Goals.{else-to-start-via-then-to-start+then-inside+else-inside-2, else-to-start-via-then-to-start+else-inside, else-to-start-via-else-to-start}
use Rattle.tape.proofs.moves.slide.Goals as goal

pub returns-then-inside-2 : goal.returns-then-inside-2
unfolding copied replaced
returns-then-inside-2 c =
    let n : c.args.start + c.args.count - c.args.start ≡ c.args.count = omega arith in
    c.copy_within.ensures.after ∙ ap (λ k. copied c.args.nodes.now c.args.to c.args.start k) n
    ∙ sym (moved_in c.args.nodes.now c.args.to c.args.start c.args.count (omega (arith, c.if-inside.ensures)) (omega (arith, c.if-inside-2.ensures)))

pub returns-else-to-start : goal.returns-else-to-start
returns-else-to-start c = elim c.else-to-start.branch [
  | else-to-start-via-then-to-start+then-inside+else-inside-2 w ↦ sym (moved_no_source c.args.nodes.now c.args.to c.args.start c.args.count (omega (arith, w.if-inside-2.ensures)))
  | else-to-start-via-then-to-start+else-inside w ↦ sym (moved_no_target c.args.nodes.now c.args.to c.args.start c.args.count (omega (arith, w.if-inside.ensures)))
  | else-to-start-via-else-to-start w ↦ sym (moved_same c.args.nodes.now c.args.to c.args.start c.args.count (omega (arith, w.if-to-start.false)))
]
