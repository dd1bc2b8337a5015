-- `line` meets its contract: the six together fit, and no more are refused than there are.
use native.Mathlib.Omega.{arith}
use borrow.Author.Rules.{rules}
use Rattle.patch_count.proofs.LineLaws.{line_is}
use Rattle.patch_count.proofs.SumLaws.{sums_refused, sums_few}
use Rattle.patch_count.proofs.line.line.Goals as goal

pub sum-ops-requires : goal.sum-ops-requires
sum-ops-requires c = omega (arith, sums_few c.requires)

pub overflow_sub-over : goal.overflow_sub-over
overflow_sub-over c = omega (arith, sums_refused c.requires)

pub returns : goal.returns
returns c = line_is _ c.requires c.sum-ops.ensures (search rules) (search rules)
    c.put_line.ensures
