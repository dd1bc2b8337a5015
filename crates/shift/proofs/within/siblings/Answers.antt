-- `siblings`: what is right of the tokens that are left is right of all; the measure is what is left of the first pointer.
use native.Mathlib.Omega.{arith}
use Rattle.pointer.proofs.WalkLaws.{next_order}
use Rattle.shift.specs.Shift.{paired_apart}
use Rattle.shift.proofs.SiblingLaws.{pairs_last, pairs_next}
use Rattle.shift.proofs.within.siblings.Goals as goal

pub returns-in_default : goal.returns-in_default
returns-in_default c =
    c.loop-next.invariant _ (pairs_last _ _ c.part-a.ensures c.part-b.ensures _ _ c.token-s.ensures
    c.token-t.ensures c.token_name-name.ensures c.in_default.is c.last_pair.ensures)

pub returns-in_default-t : goal.returns-in_default-t
returns-in_default-t c =
    c.loop-next.invariant _ paired_apart

pub returns-then-not-same_text : goal.returns-then-not-same_text
returns-then-not-same_text c =
    c.loop-next.invariant _ paired_apart

pub returns-in_err-child : goal.returns-in_err-child
returns-in_err-child c = rw c.from_residual.ensures (c.loop-next.invariant _ paired_apart)

pub loop-next-smaller : goal.loop-next-smaller
loop-next-smaller c =
    let order = next_order _ _ _ c.token-s.ensures _ _ c.in-Next.is in
    omega (arith, order.0, order.1, order.2)

pub loop-next-preserved : goal.loop-next-preserved
loop-next-preserved c =
    λ r rest. c.loop-next.invariant r
    (pairs_next _ _ c.part-a.ensures c.part-b.ensures _ _ c.token-s.ensures c.token-t.ensures
    c.token_name-name.ensures c.in-Next.is c.in-Next-t.is _ _ c.token_part.ensures
    c.token_part-in-loop-next.ensures _ c.same_text.ensures c.if-not-same_text.false _ c.step.ensures
    c.ok.ensures.value c.in_ok-child.was rest)
