-- `copy_out` meets its contract: the bracket is laid down, and behind it the end of the buffer. Assumes nothing.
use native.Mathlib.Omega.{arith}
use Rattle.undo_log.proofs.LogLaws.{copied_out}
use Rattle.undo_log.proofs.log.copy_out.Goals as goal

pub returns-in_default : goal.returns-in_default
returns-in_default c os n h room =
    absurd (c.in_default.ensures (omega (arith, c.rest_length.ensures _ os n h, n.long)))

pub returns : goal.returns
returns c os n h room =
    copied_out os _ _ n (c.rest_length.ensures _ os n h) c.in-Some.ensures.1 h room c.put_byte-put.ensures c.put_part.ensures
