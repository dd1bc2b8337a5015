use Rattle.intel_hex.proofs.LineLaws.{all_at, told_some}
use Rattle.intel_hex.proofs.WritingLaws.{filling_starts, filling_on, filling_ends}
use Rattle.intel_hex.proofs.reading.put_data.Goals as goal

pub loop-i-init : goal.loop-i-init
loop-i-init c = filling_starts _ _ _ _

pub unwrap-requires : goal.unwrap-requires
unwrap-requires c = told_some _ _ c.hex_byte.ensures (all_at _ _ _ _ c.requires.1 c.loop-i-test.true)

pub loop-i-preserved : goal.loop-i-preserved
loop-i-preserved c =
    filling_on c.loop-i.invariant c.loop-i-test.true (rw c.unwrap.ensures at c.hex_byte.ensures).1 c.put.ensures

pub returns : goal.returns
returns c = filling_ends c.loop-i.invariant c.loop-i-test.false
