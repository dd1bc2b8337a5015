use borrow.Author.Rules.{rules}
use mathlib.Core.Path.{refl}
use native.Mathlib.Omega.{arith}
use Rattle.byte_class.proofs.RowLaws.{none_filled, filled_as}
use Rattle.byte_class.proofs.class_table.flat.Goals as goal

pub loop-i-init : goal.loop-i-init
loop-i-init c = none_filled _ _ refl

pub put_row-requires : goal.put_row-requires
put_row-requires c = (search rules, c.loop-i.invariant)

pub loop-i-preserved : goal.loop-i-preserved
loop-i-preserved c = filled_as (omega arith) c.put_row.ensures

pub returns : goal.returns
returns c = filled_as (omega arith) c.loop-i.invariant
