-- `integer` meets its contract: the integer so far and the digits left write the whole one.
use mathlib.Core.Path.{sym, ◌∙◌}
use Rattle.decimal.proofs.ExponentLaws.{decimal_next, decimal_past, decimal_large, decimal_small}
use Rattle.decimal.proofs.exponent.integer.Goals as goal

pub returns-then-n-gt-MAX_EXPONENT : goal.returns-then-n-gt-MAX_EXPONENT
returns-then-n-gt-MAX_EXPONENT c =
    decimal_large c.args.t.now c.loop-b.b-index c.loop-b-test.true _ _ _ (c.from.ensures ∙ c.saturating_sub.ensures) c.if-n-gt-MAX_EXPONENT.true
    c.loop-b.invariant.1

pub loop-b-preserved : goal.loop-b-preserved
loop-b-preserved c = (
  c.if-n-gt-MAX_EXPONENT.false,
  rw (c.from.ensures ∙ c.saturating_sub.ensures) (sym (decimal_next _ _ c.loop-b-test.true _) ∙ c.loop-b.invariant.1),
)

pub returns : goal.returns
returns c = decimal_small _ _ c.loop-b.invariant.0 (sym (decimal_past _ _ c.loop-b-test.false _) ∙ c.loop-b.invariant.1)
