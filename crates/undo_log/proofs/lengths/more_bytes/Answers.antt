-- `more_bytes` meets its contract. Assumes nothing.
use native.Mathlib.Omega.{arith}
use Rattle.undo_log.proofs.lengths.more_bytes.Goals as goal

pub returns : goal.returns
returns c tail e o k = omega (arith, e, c.joined.ensures, c.operation_length.ensures o k)
