-- `prefix_from`: an answer that is right for the tokens that are left is right for all.
use native.Mathlib.Omega.{arith}
use Rattle.pointer.proofs.WalkLaws.{next_order}
use Rattle.pointer.proofs.PrefixLaws.{prefix_differs, prefix_behind, last_behind, none_behind, both_behind}
use Rattle.pointer.proofs.prefixes.prefix_from.Goals as goal

pub loop-s-init : goal.loop-s-init
loop-s-init c = λ r p. p

pub returns-then-not-same_token : goal.returns-then-not-same_token
returns-then-not-same_token c =
    c.loop-s.invariant _
    (prefix_differs _ _ _ _ _ _ c.token-s.ensures c.token-t.ensures _ c.same_token.ensures c.if-not-same_token.true)

pub returns-in_default : goal.returns-in_default
returns-in_default c =
    c.loop-s.invariant _
    (prefix_behind _ _ _ _ _ _ c.token-s.ensures c.token-t.ensures _ c.same_token.ensures _
    c.if-not-same_token.false (rw c.is_next.ensures (last_behind _ _ _ _ _ c.in_default.is)))

pub returns-in_default-t : goal.returns-in_default-t
returns-in_default-t c =
    c.loop-s.invariant _
    (prefix_behind _ _ _ _ _ _ c.token-s.ensures c.token-t.ensures _
    c.same_token.ensures _ c.if-not-same_token.false (none_behind _ _ _ _ _ c.in_default-t.is))

pub loop-s-smaller : goal.loop-s-smaller
loop-s-smaller c =
    omega (arith, next_order _ _ _ c.token-s.ensures _ _ c.in-Next.is)

pub loop-s-preserved : goal.loop-s-preserved
loop-s-preserved c =
    λ r p. c.loop-s.invariant _
    (prefix_behind _ _ _ _ _ _ c.token-s.ensures c.token-t.ensures _ c.same_token.ensures _
    c.if-not-same_token.false (both_behind _ _ _ _ _ _ _ _ _ c.in-Next.is c.in-Next-t.is p))
