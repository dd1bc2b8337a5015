-- `clear` meets its contract. Assumes nothing.
use Rattle.std.proofs.Common.{sym, arith}
use Rattle.tape.proofs.Columns.{filled_out}
use Rattle.spec.specs.Limits.{max_bytes}
use Rattle.undo_log.proofs.LogLaws.{filled_front}
use Rattle.undo_log.proofs.log.clear.Goals as goal

pub returns-then-work-ge-MAX_BYTES : goal.returns-then-work-ge-MAX_BYTES
returns-then-work-ge-MAX_BYTES c =
    filled_front max_bytes c.args.work.now c.if-work-ge-MAX_BYTES.true (c.fill.ensures.after (λ y e. e))

pub returns-else-work-ge-MAX_BYTES : goal.returns-else-work-ge-MAX_BYTES
returns-else-work-ge-MAX_BYTES c = sym (filled_out c.args.work.now 0 0 max_bytes (omega (arith, c.if-work-ge-MAX_BYTES.false)))
