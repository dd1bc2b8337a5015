use Prim.Native.Nat.{suc, ◌+◌, ◌<◌}
use mathlib.Core.Path.{sym, ◌∙◌}
use native.Mathlib.Omega.{arith}
use Rattle.spec.specs.Bytes.{byte}
use Rattle.lexer.proofs.StateLaws.{over_whole, over_none, over_next, look_small}
use Rattle.lexer.proofs.verbatim.after_block.Goals as goal

-- the bytes that are left lead where the whole block does

pub loop-place-init : goal.loop-place-init
unfolding byte
loop-place-init c =
    let h : c.args.first < 64 = omega (arith, c.requires) in (
      h,
      omega arith,
      λ left e. over_whole c.args.columns.now c.args.steps.now c.args.first c.args.s.now (omega arith)
          (omega arith),
    )

pub loop-place-preserved : goal.loop-place-preserved
unfolding byte
loop-place-preserved c =
    let place = c.loop-place.place in (
      omega (arith, look_small c.args.columns.now c.args.steps.now c.loop-place.state (byte c.args.s.now place), c.next_state-state.ensures),
      omega arith,
      λ left e. over_next c.args.columns.now c.args.steps.now left c.loop-place.state c.args.s.now place c.next_state-state.ensures (omega arith) ∙
          c.loop-place.invariant.2 (suc left) (omega arith),
    )

pub returns : goal.returns
unfolding byte
returns c =
    let e = c.loop-place.invariant.2 0 (omega arith) in
    (c.loop-place.invariant.0, sym (over_none _ _ _ _ _) ∙ e)
