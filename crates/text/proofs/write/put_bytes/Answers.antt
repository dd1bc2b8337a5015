use native.Mathlib.Omega.{arith}
use Rattle.text.proofs.StoreLaws.{copied_none, copied-length, copied_more, copied_all}
use Rattle.text.proofs.write.put_bytes.Goals as goal

pub loop-i-init : goal.loop-i-init
loop-i-init c = (omega arith, copied_none)

pub bounds-out-at : goal.bounds-out-at
bounds-out-at c = omega (arith, copied-length c.loop-i.invariant.1)

pub loop-i-preserved : goal.loop-i-preserved
loop-i-preserved c = (omega arith, copied_more c.loop-i.invariant.1 (omega arith))

pub shape_of-out : goal.shape_of-out
shape_of-out c = copied-length c.loop-i.invariant.1

pub returns : goal.returns
returns c = copied_all c.loop-i.invariant.1 (omega arith)
