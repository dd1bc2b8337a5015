use native.Mathlib.Omega.{arith}
use mir.Syntax.{w32}
use mir.ValLaws.{to_z_pos}
use Rattle.decimal.proofs.IntegerLaws.{negated_fits, negated}
use Rattle.decimal.proofs.signed.Goals as goal

pub overflow_sub-result : goal.overflow_sub-result
overflow_sub-result c = negated_fits c.args.size (omega arith)

pub returns-then-negative : goal.returns-then-negative
returns-then-negative c = rw c.if-negative.true (negated c.args.size (omega arith))

pub returns : goal.returns
returns c = rw c.if-negative.false (to_z_pos w32 c.args.size (omega arith))
