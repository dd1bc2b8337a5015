use Prim.Native.Nat.{ℕ}
use Prim.Native.Char.{code}
use mathlib.Core.Path.{◌≡◌, sym, ◌∙◌}
use mathlib.Core.Bool.{false}
use native.Mathlib.Omega.{arith}
use borrow.Author.Tests.{ne_eqb}
use Rattle.spec.specs.Bytes.{Bytes, byte, within}
use Rattle.spec.specs.Strings.{multibyte, character}
use Rattle.spec.specs.Fault.{outcome_by, number_of}
use Rattle.lexer.specs.Answers.{character_outcome}
use Rattle.lexer.proofs.Tests.{below_within, above_within}
use Rattle.lexer.proofs.ByteLaws.{here}
use Rattle.lexer.proofs.Auto.{auto}
use Rattle.lexer.proofs.cursor.Cursor.character.Goals as goal
use Rattle.lexer.proofs.cursor.Cursor.character.Goals.{in_default-via-then-b-lt32, in_default-via-else-b-lt32+else-b-lt128}

-- a byte that is neither a backslash nor ASCII
other : (s : Bytes) (at : ℕ) → (byte s at ≡ code "\\" → ⊥) → within 0x20 0x7F (byte s at) ≡ false →
    character s at ≡ multibyte s at (byte s at)
unfolding character
other s at n w = rw (ne_eqb (byte s at) (code "\\") n, w)

pub overflow_add-at : goal.overflow_add-at
unfolding character within outcome_by number_of
overflow_add-at c = omega (arith, here _ _ _ (sym c.peek-b.ensures) (omega arith))

pub overflow_add-result : goal.overflow_add-result
unfolding character within outcome_by number_of
overflow_add-result c = omega (arith, here _ _ _ (sym c.peek-b.ensures) (omega arith))

pub returns-in-92 : goal.returns-in-92
unfolding character within outcome_by number_of
returns-in-92 c = rw (← c.peek-b.ensures) (search auto)

pub returns-in-32-to-127 : goal.returns-in-32-to-127
unfolding character within outcome_by number_of
returns-in-32-to-127 c = rw (← c.peek-b.ensures) (search auto)

pub returns-in_default : goal.returns-in_default
unfolding character within outcome_by number_of
returns-in_default c =
    let b = byte c.args.s.now c.args.self.at in
    let not_ascii : within 0x20 0x7F b ≡ false → (b ≡ 92 → ⊥) → character_outcome c.multibyte.result ≡ character c.args.s.now c.args.self.at =
    λ w n. c.multibyte.ensures ∙ sym (other _ _ n w) in
    elim c.in_default.branch [
      | in_default-via-then-b-lt32 w ↦ not_ascii (below_within 0x20 0x7F b (omega arith)) (λ e. omega (arith, e))
      | in_default-via-else-b-lt32+else-b-lt128 w ↦ not_ascii (above_within 0x20 0x7F b (omega arith)) (λ e. omega (arith, e))
    ]
