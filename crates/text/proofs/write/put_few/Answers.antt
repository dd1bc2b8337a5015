-- `put_few` meets its contract: after i turns the first i bytes are stored, those for which there is room.
use Prim.Native.Nat.{◌+◌}
use native.Mathlib.Omega.{arith}
use Rattle.text.proofs.StoreLaws.{Copied, copied_none, copied-length, copied_more, copied_past, copied_each}
use Rattle.text.proofs.write.put_few.Goals as goal
use Rattle.text.proofs.write.put_few.Goals.{then-at-i, else-at-i}

pub loop-i-init : goal.loop-i-init
loop-i-init c = (omega arith, copied_none)

pub loop-i-preserved : goal.loop-i-preserved
loop-i-preserved c =
    let more : Copied c.args.s.now c.args.out.now c.args.at (c.loop-i.i + 1) c.if-at-i.out =
    elim c.if-at-i.branch [
      | then-at-i w ↦ rw w.out-is (copied_more c.loop-i.invariant.1 c.loop-i-test.true)
      | else-at-i w ↦ rw w.out-is (copied_past c.loop-i.invariant.1 c.loop-i-test.true w.if-at-i.false)
    ] in
    (omega arith, more)

pub shape_of-out : goal.shape_of-out
shape_of-out c = copied-length c.loop-i.invariant.1

pub returns : goal.returns
returns c = copied_each c.loop-i.invariant.1 (omega arith)
