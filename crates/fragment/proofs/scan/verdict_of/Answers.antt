use Rattle.std.proofs.Common.{◌∙◌}
use Rattle.spec.specs.Bytes.{byte}
use Rattle.fragment.proofs.ScanLaws.{scanning_starts, scanning_on, scanning_ends}
use Rattle.fragment.proofs.scan.verdict_of.Goals as goal

pub loop-b-init : goal.loop-b-init
loop-b-init c = scanning_starts _

pub loop-b-preserved : goal.loop-b-preserved
unfolding byte
loop-b-preserved c = scanning_on c.loop-b.invariant c.loop-b-test.true c.next-awaited.ensures c.next-syntax.ensures

pub returns : goal.returns
returns c = c.judge.ensures ∙ scanning_ends c.loop-b.invariant c.loop-b-test.false
