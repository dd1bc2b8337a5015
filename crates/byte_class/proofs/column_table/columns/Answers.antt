use mathlib.Core.Path.{◌∙◌}
use native.Mathlib.Omega.{arith}
use Rattle.byte_class.proofs.ColumnLaws.{column_rule}
use Rattle.byte_class.proofs.column_table.columns.Goals as goal

pub lay-requires : goal.lay-requires
lay-requires c = (omega arith, omega arith, c.classes-table.ensures.counted)

pub lay-requires-2 : goal.lay-requires-2
lay-requires-2 c = (omega arith, omega arith, c.lay.ensures.counted ∙ c.classes-table.ensures.counted)

pub returns : goal.returns
returns c = column_rule c.classes-table.ensures c.lay.ensures c.lay-2.ensures
