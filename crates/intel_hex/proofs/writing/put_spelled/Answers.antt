use Rattle.std.proofs.Common.{arith}
use Rattle.spec.specs.Bytes.{byte}
use Rattle.text.proofs.LaidLaws.{laid_on, laid_ends}
use Rattle.intel_hex.specs.Record.{digits}
use Rattle.intel_hex.proofs.RecordLaws.{digits_of_here, digits_of_end}
use Rattle.intel_hex.proofs.writing.put_spelled.Goals as goal

pub loop-b-preserved : goal.loop-b-preserved
unfolding byte digits
loop-b-preserved c = (
  omega (arith, c.put_digits-end.ensures.next_is),
  laid_on c.loop-b.invariant.1 _ (digits_of_here _ c.loop-b.b-index c.loop-b-test.true) c.put_digits-end.ensures,
)

pub returns : goal.returns
returns c = laid_ends c.loop-b.invariant.1 (digits_of_end _ c.loop-b.b-index c.loop-b-test.false)
