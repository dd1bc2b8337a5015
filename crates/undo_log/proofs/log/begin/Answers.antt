-- `begin` meets its contract: the closing bracket is stored in the last byte. Assumes nothing.
use native.Mathlib.Omega.{arith}
use Prim.Native.Nat.{◌-◌}
use lib.ListN.{length}
use Rattle.undo_log.proofs.LogLaws.{noted_none}
use Rattle.undo_log.proofs.log.begin.Goals as goal

pub returns-then-end-ne0 : goal.returns-then-end-ne0
returns-then-end-ne0 c = λ e. noted_none c.args.work.now (length c.args.work.now - 1) (omega arith) e

pub returns-else-end-ne0 : goal.returns-else-end-ne0
returns-else-end-ne0 c e = absurd (omega arith)
