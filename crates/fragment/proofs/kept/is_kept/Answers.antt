use native.Mathlib.Omega.{arith}
use Rattle.fragment.proofs.kept.is_kept.Goals as goal

pub returns : goal.returns
returns c = rw c.from.ensures (c.requires.rule c.args.b (omega arith))
