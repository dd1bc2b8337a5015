use Rattle.std.proofs.Common.{refl}
use Rattle.intel_hex.proofs.LineLaws.{scanning_starts, scanning_bad, scanning_on, scanning_ends}
use Rattle.intel_hex.proofs.lines.scan.Goals as goal

pub loop-i-init : goal.loop-i-init
loop-i-init c = scanning_starts _ _ _

pub returns-in_err-sum : goal.returns-in_err-sum
returns-in_err-sum c =
    rw c.from_residual.ensures (scanning_bad c.loop-i.invariant c.loop-i-test.true c.in_err-sum.ensures)

pub loop-i-preserved : goal.loop-i-preserved
loop-i-preserved c =
    scanning_on c.loop-i.invariant c.loop-i-test.true c.in_ok-sum.ensures.0 c.in_ok-sum.ensures.1 refl

pub returns : goal.returns
returns c = scanning_ends c.loop-i.invariant c.loop-i-test.false
