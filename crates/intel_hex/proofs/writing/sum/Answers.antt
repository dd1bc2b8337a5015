use Rattle.std.proofs.Common.{arith}
use Rattle.spec.specs.Bytes.{byte}
use Rattle.intel_hex.proofs.RecordLaws.{total_here, total_end}
use Rattle.intel_hex.proofs.writing.sum.Goals as goal

pub loop-b-preserved : goal.loop-b-preserved
unfolding byte
loop-b-preserved c = (
  omega arith,
  omega (arith, total_here c.args.bytes.now c.loop-b.b-index c.loop-b-test.true, c.loop-b.invariant.1),
)

pub returns : goal.returns
unfolding byte
returns c = omega (arith, total_end c.args.bytes.now c.loop-b.b-index c.loop-b-test.false, c.loop-b.invariant.1)
