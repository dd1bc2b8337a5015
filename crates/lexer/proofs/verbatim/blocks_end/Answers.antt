use Prim.Native.Nat.{ℕ, ◌<◌}
use native.Mathlib.Omega.{arith}
use Rattle.spec.specs.Bytes.{byte}
use Rattle.lexer.specs.Verbatim.{none}
use Rattle.lexer.specs.States.{block}
use Rattle.lexer.proofs.StateLaws.{gone_starts, gone_block, block_end}
use Rattle.lexer.proofs.verbatim.blocks_end.Goals as goal

-- the state says what the bytes before the place are, and the characters before the end are whole

pub loop-at-init : goal.loop-at-init
unfolding byte
loop-at-init c = (omega arith, λ escapes t. (gone_starts _ _ _, none))

pub returns-then-s-at-lt-BLOCK : goal.returns-then-s-at-lt-BLOCK
unfolding byte
returns-then-s-at-lt-BLOCK c = λ escapes t. (c.loop-at.invariant.1 escapes t).1

pub after_block-state-requires : goal.after_block-state-requires
unfolding byte
after_block-state-requires c = (c.loop-at.invariant.0, omega arith)

pub returns-then-state-eq-END : goal.returns-then-state-eq-END
unfolding byte
returns-then-state-eq-END c = λ escapes t. (c.loop-at.invariant.1 escapes t).1

pub loop-at-preserved : goal.loop-at-preserved
unfolding byte
loop-at-preserved c =
    let small : (k : ℕ) → byte c.args.s.now k < 256 = λ k. omega (arith, c.type_inv.s k) in (
      c.after_block-state.ensures.0,
      λ escapes t.
          let so = c.loop-at.invariant.1 escapes t in
          let g = gone_block t c.args.s.now small block c.after_block-state.ensures.1 c.if-state-eq-END.false so.0 in
          (g, block_end g so.1 c.whole_end-end.ensures),
    )

pub returns : goal.returns
unfolding byte
returns c = λ escapes t. (c.loop-at.invariant.1 escapes t).1
