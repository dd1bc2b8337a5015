-- `character_at` meets its contract: a byte of ASCII is a character, and any other is read as in a string.
use mathlib.Core.Path.{sym, ap, ◌∙◌}
use native.Mathlib.Omega.{arith}
use Prim.Native.Nat.{◌+◌}
use Rattle.spec.specs.Outcome.{ok}
use Rattle.spec.specs.Fault.{outcome_by}
use Rattle.region.proofs.BeginsLaws.{ascii_here, above-ascii}
use Rattle.region.proofs.compare.character_at.Goals as goal

pub returns-then-b-lt128 : goal.returns-then-b-lt128
unfolding outcome_by
returns-then-b-lt128 c =
    ap (λ b. ok (b, c.args.at + 1)) (c.from.ensures ∙ c.peek-b.ensures) ∙ sym (ascii_here _ _ (omega arith))

pub returns : goal.returns
unfolding outcome_by
returns c = c.character.ensures ∙ sym (above-ascii _ _ (omega arith))
