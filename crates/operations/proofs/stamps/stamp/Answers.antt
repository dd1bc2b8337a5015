-- `stamp` meets its contract: what is left to stamp gives the same list.
use Prim.Native.Nat.{◌+◌, ◌-◌}
use mathlib.Core.Path.{◌≡◌, refl, sym, ap, ◌∙◌}
use native.Mathlib.Omega.{arith}
use borrow.Author.Rules.{rules}
use Rattle.operations.specs.Stamp.{stamped}
use Rattle.operations.proofs.StampLaws.{stamp_next, stamp_over}
use Rattle.operations.proofs.stamps.stamp.Goals as goal

pub loop-row-init : goal.loop-row-init
loop-row-init c =
    let all : c.args.start + c.args.count - c.args.start ≡ c.args.count = omega arith in
    (refl, ap (λ n. stamped c.args.nodes.now c.args.start n c.args.origin) all)

pub loop-row-preserved : goal.loop-row-preserved
loop-row-preserved c = (
  search rules,
  (
      let l = c.loop-row in
      let less : c.args.start + c.args.count - (l.row + 1) ≡ c.args.start + c.args.count - l.row - 1 = omega arith in
      rw less (stamp_next l.nodes l.row (c.args.start + c.args.count - l.row) c.args.origin (omega arith) (omega arith)) ∙ l.invariant.1),
)

pub returns : goal.returns
returns c =
    let l = c.loop-row in
    sym (stamp_over l.nodes l.row (c.args.start + c.args.count - l.row) c.args.origin (λ h. omega arith)) ∙ l.invariant.1
