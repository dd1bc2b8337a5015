use Rattle.std.proofs.Common.{arith}
use Rattle.fragment.proofs.OctetLaws.{octet_onward}
use Rattle.fragment.proofs.WritingLaws.{putting_starts, putting_on, putting_bad, putting_ends}
use Rattle.fragment.proofs.writing.put_octets.Goals as goal

pub loop-at-init : goal.loop-at-init
loop-at-init c = putting_starts _ _ _ c.requires.0

pub returns-in_default : goal.returns-in_default
returns-in_default c = putting_bad c.loop-at.invariant c.in_default.ensures

pub loop-at-smaller : goal.loop-at-smaller
loop-at-smaller c = omega (arith, octet_onward c.in-Some.ensures)

pub loop-at-preserved : goal.loop-at-preserved
loop-at-preserved c = putting_on c.loop-at.invariant c.in-Some.ensures c.put.ensures

pub returns : goal.returns
returns c = putting_ends c.loop-at.invariant c.loop-at-test.false
