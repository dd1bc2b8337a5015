use native.Mathlib.Omega.{arith}
use Rattle.byte_class.proofs.ColumnLaws.{none_laid, laid_next, laid_to}
use Rattle.byte_class.proofs.column_table.lay.Goals as goal

pub loop-b-init : goal.loop-b-init
loop-b-init c = none_laid _ _ _

pub loop-b-preserved : goal.loop-b-preserved
loop-b-preserved c = laid_next c.loop-b.invariant c.loop-b.auto.b c.requires.2 (omega arith)

pub returns : goal.returns
returns c = laid_to c.loop-b.invariant (omega arith)
