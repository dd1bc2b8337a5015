-- `lay_down` meets its contract: the text begins `bytes` bytes before the end. Assumes nothing.
use native.Mathlib.Omega.{arith}
use Rattle.undo_log.proofs.NoteLaws.{lay_down_is}
use Rattle.undo_log.proofs.note.lay_down.Goals as goal

pub returns-in_default : goal.returns-in_default
returns-in_default c o k start e h = absurd (c.in_default.ensures (omega (arith, e)))

pub returns : goal.returns
returns c o k start e h =
    lay_down_is c.args.work.now c.args.bytes c.in-Some.start c.in-Some.ensures.1 (c.put_operation.ensures o k) start e h
