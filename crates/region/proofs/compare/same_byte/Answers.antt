-- `same_byte` meets its contract.
use mathlib.Core.Path.{sym, ◌∙◌}
use mathlib.Core.Bool.{true≢false}
use borrow.Author.Tests.{eqb-true, le-ltb}
use Rattle.spec.specs.Bytes.{byte}
use Rattle.region.proofs.compare.same_byte.Goals as goal
use Rattle.region.proofs.compare.same_byte.Goals.{then-j-part, else-j-part}

pub returns-then-part-j : goal.returns-then-part-j
unfolding byte
returns-then-part-j c e = elim c.if-j-part.branch [
  | then-j-part b ↦ record {
    inside = b.if-j-part.true;
    same = sym (eqb-true _ _ (sym b.value-is ∙ c.if-part-j.true));
    plain = sym c.stands_for_itself.ensures ∙ e;
  }
  | else-j-part b ↦ absurd (true≢false (sym c.if-part-j.true ∙ b.value-is ∙ le-ltb _ _ b.if-j-part.false))
]
