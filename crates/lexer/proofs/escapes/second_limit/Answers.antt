use Prim.Native.Nat.{ℕ}
use mathlib.Core.Path.{◌≡◌}
use borrow.Author.Tests.{eq-eqb}
use Rattle.spec.specs.Strings.{second_limit}
use Rattle.lexer.proofs.Auto.{auto}
use Rattle.lexer.proofs.escapes.second_limit.Goals as goal

-- a wrong limit is then refused by its number
after_D : (a : ℕ) → a ≡ 0xD → 0xB ≡ second_limit a
unfolding second_limit
after_D a e = rw (eq-eqb a 0xD e)

pub returns-then-a-eq13 : goal.returns-then-a-eq13
unfolding second_limit
returns-then-a-eq13 c = after_D _ c.if-a-eq13.true

pub returns : goal.returns
unfolding second_limit
returns c = search auto
