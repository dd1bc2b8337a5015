use native.Mathlib.Omega.{arith}
use borrow.Author.Tests.{eq-eqb, ne_eqb}
use Rattle.decimal.proofs.IntegerLaws.{less_fits, more_fits, more}
use Rattle.decimal.proofs.power.Goals as goal

pub returns-then-count-eq0 : goal.returns-then-count-eq0
returns-then-count-eq0 c = rw (eq-eqb _ _ c.if-count-eq0.true)

pub overflow_sub-result : goal.overflow_sub-result
overflow_sub-result c = less_fits c.args.exponent c.args.fraction 0 c.ranges.exponent (omega arith)

pub overflow_add-result : goal.overflow_add-result
overflow_add-result c = more_fits c.args.exponent c.args.fraction c.args.dropped c.ranges.exponent (omega arith)

pub returns : goal.returns
returns c = rw (ne_eqb _ _ c.if-count-eq0.false)
    (more c.args.exponent c.args.fraction c.args.dropped c.ranges.exponent (omega arith))
