use Rattle.std.proofs.Common.{sym, refl}
use lib.Seq.{set_out}
use Rattle.intel_hex.proofs.writing.put.Goals as goal

pub returns-then-at-out : goal.returns-then-at-out
returns-then-at-out c = refl

pub returns-else-at-out : goal.returns-else-at-out
returns-else-at-out c = sym (set_out _ _ _ c.if-at-out.false)
