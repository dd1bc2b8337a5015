use borrow.Author.Rules.{rules}
use native.Mathlib.Omega.{arith}
use Rattle.byte_class.proofs.RowLaws.{filled_as, filled_next}
use Rattle.byte_class.proofs.class_table.put_row.Goals as goal

pub loop-j-init : goal.loop-j-init
loop-j-init c = filled_as (omega arith) c.requires.1

pub loop-j-preserved : goal.loop-j-preserved
loop-j-preserved c = filled_next _ _ c.loop-j.invariant (search rules) (omega arith)

pub returns : goal.returns
returns c = filled_as (omega arith) c.loop-j.invariant
