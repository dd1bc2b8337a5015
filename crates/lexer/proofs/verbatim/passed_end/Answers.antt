use mathlib.Core.Path.{refl}
use native.Mathlib.Omega.{arith}
use Rattle.spec.specs.Bytes.{byte}
use Rattle.lexer.proofs.StateLaws.{between, going_end, look_small, turn, stops, past}
use Rattle.lexer.proofs.verbatim.passed_end.Goals as goal

-- the state says what the bytes before the place are, and the tables are shifted by it; the end is that of the turn before

pub loop-at-init : goal.loop-at-init
unfolding byte
loop-at-init c = (omega arith, λ escapes t. record { passed = c.blocks_end-end.ensures escapes t; midst = between refl })

pub returns-then-state-eq-END : goal.returns-then-state-eq-END
unfolding byte
returns-then-state-eq-END c =
    λ escapes t.
    stops (going_end c.whole_end-end.ensures (c.loop-at.invariant.1 escapes t)) t
    (omega (arith, c.type_inv.s c.loop-at.at)) c.next_state-state.ensures c.if-state-eq-END.true

pub loop-at-preserved : goal.loop-at-preserved
unfolding byte
loop-at-preserved c = (
  omega (arith, look_small c.args.columns.now c.args.steps.now c.loop-at.state (byte c.args.s.now c.loop-at.at)),
  λ escapes t.
      turn (going_end c.whole_end-end.ensures (c.loop-at.invariant.1 escapes t)) t
      (omega (arith, c.type_inv.s c.loop-at.at)) c.next_state-state.ensures c.if-state-eq-END.false,
)

pub returns : goal.returns
unfolding byte
returns c = λ escapes t. past (going_end c.whole_end.ensures (c.loop-at.invariant.1 escapes t)) c.loop-at-test.false
