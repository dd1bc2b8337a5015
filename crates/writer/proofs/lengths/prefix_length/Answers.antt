-- `prefix_length` meets its contract, by those of its two parts.
use native.Mathlib.Omega.{arith}
use Rattle.writer.proofs.LengthLaws.{comma_short, name_short, prefix_length}
use Rattle.tape.specs.Lent.{both}
use Rattle.writer.proofs.lengths.prefix_length.Goals as goal

pub overflow_add-result : goal.overflow_add-result
overflow_add-result c = omega (
  arith,
  comma_short c.args.first,
  name_short (both c.args.texts) c.args.object
      c.args.name,
)

pub returns : goal.returns
returns c = omega (
  arith,
  prefix_length (both c.args.texts) c.args.object c.args.first
      c.args.name,
)
