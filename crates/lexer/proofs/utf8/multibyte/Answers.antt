use Prim.Native.Nat.{ℕ, ◌+◌, ◌-◌, ◌≤◌, ◌<◌}
use mathlib.Core.Path.{◌≡◌, sym}
use native.Mathlib.Omega.{arith}
use Rattle.spec.specs.Outcome.{Outcome, refused}
use Rattle.spec.specs.Refusal.{not_json}
use Rattle.spec.specs.Bytes.{Bytes, byte}
use Rattle.spec.specs.Strings.{tail, multibyte}
use Rattle.spec.specs.Fault.{outcome_by, number_of}
use Rattle.lexer.proofs.Tests.{between-within, below_within, above_within}
use Rattle.lexer.proofs.ByteLaws.{here}
use Rattle.lexer.proofs.utf8.multibyte.Goals as goal
use Rattle.lexer.proofs.utf8.multibyte.Goals.{in_default-via-then-b-lt194-2, in_default-via-else-b-lt194-2+else-b-lt224+else-b-lt237+else-b-lt240+else-b-lt244}

-- the definition, row by row: `b` is the byte at the place, and `o` what the code answered
module _ (s : Bytes) (at b : ℕ) (is : b ≡ byte s at) where
  below_C2 : b < 0xC2 → refused not_json at ≡ multibyte s at (byte s at)
  unfolding multibyte
  below_C2 h =
      rw (
        ← is,
        below_within 0xC2 0xDF b (omega arith),
        below_within 0xE0 0xE0 b (omega arith),
        below_within 0xE1 0xEC b (omega arith),
        below_within 0xED 0xED b (omega arith),
        below_within 0xEE 0xEF b (omega arith),
        below_within 0xF0 0xF0 b (omega arith),
        below_within 0xF1 0xF3 b (omega arith),
        below_within 0xF4 0xF4 b (omega arith),
      )

  from_C2 : {o : Outcome (ℕ × ℕ)} → 0xC2 ≤ b → b ≤ 0xDF → o ≡ tail 1 s (at + 1) 0x80 0xBF (b - 0xC0) → o ≡ multibyte s at (byte s at)
  unfolding multibyte
  from_C2 l h e = rw (← is, between-within 0xC2 0xDF b l h) e

  from_E0 : {o : Outcome (ℕ × ℕ)} → 0xE0 ≤ b → b ≤ 0xE0 → o ≡ tail 2 s (at + 1) 0xA0 0xBF (b - 0xE0) → o ≡ multibyte s at (byte s at)
  unfolding multibyte
  from_E0 l h e = rw (← is, above_within 0xC2 0xDF b (omega arith), between-within 0xE0 0xE0 b l h) e

  from_E1 : {o : Outcome (ℕ × ℕ)} → 0xE1 ≤ b → b ≤ 0xEC → o ≡ tail 2 s (at + 1) 0x80 0xBF (b - 0xE0) → o ≡ multibyte s at (byte s at)
  unfolding multibyte
  from_E1 l h e = rw (← is, above_within 0xC2 0xDF b (omega arith), above_within 0xE0 0xE0 b (omega arith), between-within 0xE1 0xEC b l h) e

  from_ED : {o : Outcome (ℕ × ℕ)} → 0xED ≤ b → b ≤ 0xED → o ≡ tail 2 s (at + 1) 0x80 0x9F (b - 0xE0) → o ≡ multibyte s at (byte s at)
  unfolding multibyte
  from_ED l h e =
      rw (
        ← is,
        above_within 0xC2 0xDF b (omega arith),
        above_within 0xE0 0xE0 b (omega arith),
        above_within 0xE1 0xEC b (omega arith),
        between-within 0xED 0xED b l h,
      ) e

  from_EE : {o : Outcome (ℕ × ℕ)} → 0xEE ≤ b → b ≤ 0xEF → o ≡ tail 2 s (at + 1) 0x80 0xBF (b - 0xE0) → o ≡ multibyte s at (byte s at)
  unfolding multibyte
  from_EE l h e =
      rw (
        ← is,
        above_within 0xC2 0xDF b (omega arith),
        above_within 0xE0 0xE0 b (omega arith),
        above_within 0xE1 0xEC b (omega arith),
        above_within 0xED 0xED b (omega arith),
        between-within 0xEE 0xEF b l h,
      ) e

  from_F0 : {o : Outcome (ℕ × ℕ)} → 0xF0 ≤ b → b ≤ 0xF0 → o ≡ tail 3 s (at + 1) 0x90 0xBF (b - 0xF0) → o ≡ multibyte s at (byte s at)
  unfolding multibyte
  from_F0 l h e =
      rw (
        ← is,
        above_within 0xC2 0xDF b (omega arith),
        above_within 0xE0 0xE0 b (omega arith),
        above_within 0xE1 0xEC b (omega arith),
        above_within 0xED 0xED b (omega arith),
        above_within 0xEE 0xEF b (omega arith),
        between-within 0xF0 0xF0 b l h,
      ) e

  from_F1 : {o : Outcome (ℕ × ℕ)} → 0xF1 ≤ b → b ≤ 0xF3 → o ≡ tail 3 s (at + 1) 0x80 0xBF (b - 0xF0) → o ≡ multibyte s at (byte s at)
  unfolding multibyte
  from_F1 l h e =
      rw (
        ← is,
        above_within 0xC2 0xDF b (omega arith),
        above_within 0xE0 0xE0 b (omega arith),
        above_within 0xE1 0xEC b (omega arith),
        above_within 0xED 0xED b (omega arith),
        above_within 0xEE 0xEF b (omega arith),
        above_within 0xF0 0xF0 b (omega arith),
        between-within 0xF1 0xF3 b l h,
      ) e

  from_F4 : {o : Outcome (ℕ × ℕ)} → 0xF4 ≤ b → b ≤ 0xF4 → o ≡ tail 3 s (at + 1) 0x80 0x8F (b - 0xF0) → o ≡ multibyte s at (byte s at)
  unfolding multibyte
  from_F4 l h e =
      rw (
        ← is,
        above_within 0xC2 0xDF b (omega arith),
        above_within 0xE0 0xE0 b (omega arith),
        above_within 0xE1 0xEC b (omega arith),
        above_within 0xED 0xED b (omega arith),
        above_within 0xEE 0xEF b (omega arith),
        above_within 0xF0 0xF0 b (omega arith),
        above_within 0xF1 0xF3 b (omega arith),
        between-within 0xF4 0xF4 b l h,
      ) e

  above_F4 : 0xF4 < b → refused not_json at ≡ multibyte s at (byte s at)
  unfolding multibyte
  above_F4 h =
      rw (
        ← is,
        above_within 0xC2 0xDF b (omega arith),
        above_within 0xE0 0xE0 b (omega arith),
        above_within 0xE1 0xEC b (omega arith),
        above_within 0xED 0xED b (omega arith),
        above_within 0xEE 0xEF b (omega arith),
        above_within 0xF0 0xF0 b (omega arith),
        above_within 0xF1 0xF3 b (omega arith),
        above_within 0xF4 0xF4 b (omega arith),
      )

pub returns-then-b-lt194 : goal.returns-then-b-lt194
unfolding outcome_by number_of
returns-then-b-lt194 c = rw c.at.ensures (below_C2 _ _ _ c.peek-b.ensures (omega arith))

pub overflow_add-next : goal.overflow_add-next
unfolding outcome_by number_of
overflow_add-next c = omega (arith, here _ _ _ (sym c.peek-b.ensures) (omega arith))

pub returns-in-224 : goal.returns-in-224
unfolding outcome_by number_of
returns-in-224 c = from_E0 _ _ _ c.peek-b.ensures (omega arith) (omega arith) c.last_two.ensures

pub returns-in-237 : goal.returns-in-237
unfolding outcome_by number_of
returns-in-237 c = from_ED _ _ _ c.peek-b.ensures (omega arith) (omega arith) c.last_two-in-237.ensures

pub returns-in-240 : goal.returns-in-240
unfolding outcome_by number_of
returns-in-240 c = from_F0 _ _ _ c.peek-b.ensures (omega arith) (omega arith) c.last_three.ensures

pub returns-in-244 : goal.returns-in-244
unfolding outcome_by number_of
returns-in-244 c = from_F4 _ _ _ c.peek-b.ensures (omega arith) (omega arith) c.last_three-in-244.ensures

pub returns-in-194-to-223 : goal.returns-in-194-to-223
unfolding outcome_by number_of
returns-in-194-to-223 c = from_C2 _ _ _ c.peek-b.ensures (omega arith) (omega arith) c.last.ensures

pub returns-in-225-to-236 : goal.returns-in-225-to-236
unfolding outcome_by number_of
returns-in-225-to-236 c = from_E1 _ _ _ c.peek-b.ensures (omega arith) (omega arith) c.last_two-in-225-to-236.ensures

pub returns-in-238-to-239 : goal.returns-in-238-to-239
unfolding outcome_by number_of
returns-in-238-to-239 c =
    from_EE _ _ _ c.peek-b.ensures (omega arith) (omega arith) c.last_two-in-238-to-239.ensures

pub returns-in-241-to-243 : goal.returns-in-241-to-243
unfolding outcome_by number_of
returns-in-241-to-243 c =
    from_F1 _ _ _ c.peek-b.ensures (omega arith) (omega arith) c.last_three-in-241-to-243.ensures

pub returns-in_default : goal.returns-in_default
unfolding outcome_by number_of
returns-in_default c =
    rw c.at-in_default.ensures (elim c.in_default.branch [
      | in_default-via-then-b-lt194-2 w ↦ below_C2 _ _ _ c.peek-b.ensures (omega arith)
      | in_default-via-else-b-lt194-2+else-b-lt224+else-b-lt237+else-b-lt240+else-b-lt244 w ↦ above_F4 _ _ _ c.peek-b.ensures (omega arith)
    ])
