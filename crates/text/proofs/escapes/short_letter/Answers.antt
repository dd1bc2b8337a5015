use Rattle.std.proofs.Common.{ℕ, ◌≡◌, eqb, false, arith}
use borrow.Author.Tests.{ne_eqb}
use Rattle.text.specs.Written.{short_letter}
use Rattle.text.proofs.escapes.short_letter.Goals as goal

pub returns-in-34 : goal.returns-in-34
unfolding short_letter
returns-in-34 c = rw c.in-34.is

pub returns-in-92 : goal.returns-in-92
unfolding short_letter
returns-in-92 c = rw c.in-92.is

pub returns-in-8 : goal.returns-in-8
unfolding short_letter
returns-in-8 c = rw c.in-8.is

pub returns-in-9 : goal.returns-in-9
unfolding short_letter
returns-in-9 c = rw c.in-9.is

pub returns-in-10 : goal.returns-in-10
unfolding short_letter
returns-in-10 c = rw c.in-10.is

pub returns-in-12 : goal.returns-in-12
unfolding short_letter
returns-in-12 c = rw c.in-12.is

pub returns-in-13 : goal.returns-in-13
unfolding short_letter
returns-in-13 c = rw c.in-13.is

pub returns-in_default : goal.returns-in_default
unfolding short_letter
returns-in_default c =
    let other : (b : ℕ) → (c.args.c ≡ b → ⊥) → eqb c.args.c b ≡ false = λ b n. ne_eqb c.args.c b n in
    rw (
      other 0x22 (λ e. omega (arith, e)),
      other 0x5C (λ e. omega (arith, e)),
      other 0x08 (λ e. omega (arith, e)),
      other 0x09 (λ e. omega (arith, e)),
      other 0x0A (λ e. omega (arith, e)),
      other 0x0C (λ e. omega (arith, e)),
      other 0x0D (λ e. omega (arith, e)),
    )
