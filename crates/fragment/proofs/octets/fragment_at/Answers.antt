use Rattle.std.proofs.Common.{arith}
use Rattle.std.proofs.lemmas.Result.{err_from_is_err_and}
use Rattle.fragment.proofs.OctetLaws.{missing, octet_onward}
use Rattle.fragment.proofs.ScanLaws.{going_starts, going_on, going_bad, going_ends}
use Rattle.fragment.proofs.octets.fragment_at.Goals as goal

pub loop-at-init : goal.loop-at-init
loop-at-init c = going_starts _ _ c.requires.0

pub returns-in_err-b : goal.returns-in_err-b
returns-in_err-b c =
    let p = err_from_is_err_and c.from_residual.result c.from_residual.ensures.1 in
    let m = missing c.octet_at.result c.in_err-b.ensures.value in
    rw (p.1, p.2, m.0) (going_bad c.loop-at.invariant (rw m.1 at c.octet_at.ensures))

pub loop-at-smaller : goal.loop-at-smaller
loop-at-smaller c = omega (arith, octet_onward (rw c.in_ok-b.ensures.ok_part at c.octet_at.ensures))

pub loop-at-preserved : goal.loop-at-preserved
loop-at-preserved c =
    rw (c.next-awaited.ensures, c.next-syntax.ensures)
    (going_on c.loop-at.invariant (rw c.in_ok-b.ensures.ok_part at c.octet_at.ensures))

pub returns-in_err-judge : goal.returns-in_err-judge
returns-in_err-judge c =
    let p = err_from_is_err_and c.from_residual-in_err-judge.result c.from_residual-in_err-judge.ensures.1 in
    rw (p.1, p.2) (going_ends c.loop-at.invariant c.loop-at-test.false c.in_err-judge.ensures)

pub returns : goal.returns
returns c = going_ends c.loop-at.invariant c.loop-at-test.false c.in_ok-judge.ensures
