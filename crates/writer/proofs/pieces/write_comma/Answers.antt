-- `write_comma` meets its contract, by the test.
use native.Mathlib.Omega.{arith}
use Rattle.spec.specs.Bytes.{ascii}
use Rattle.spec.specs.Write.{comma}
use Rattle.writer.proofs.PlacedLaws.{placed_as, placed_none}
use Rattle.writer.proofs.pieces.write_comma.Goals as goal

pub returns-then-first : goal.returns-then-first
unfolding comma ascii
returns-then-first c = placed_as (rw c.if-first.true) (placed_none 0 _ (omega arith))

pub returns : goal.returns
unfolding comma ascii
returns c = placed_as (rw c.if-first.false) c.put_byte.ensures
