-- `token`: an answer that is right for the rest of the token is right for all of it.
use native.Mathlib.Omega.{arith}
use Rattle.lexer.proofs.AnswerLaws.{scalar_ok, character_refused}
use Rattle.pointer.proofs.ScanLaws.{character_less, continued, scanned_end, scanned_slash, scanned_more, scanned_token}
use Rattle.pointer.proofs.tokens.token.Goals as goal

pub loop-at-init : goal.loop-at-init
loop-at-init c = λ t r. scanned_token _ _ t r

pub overflow_add-at : goal.overflow_add-at
overflow_add-at c = omega (arith, continued _ _ c.peek-b.ensures c.continues.ensures c.if-continues.true)

pub loop-at-smaller-then-continues : goal.loop-at-smaller-then-continues
loop-at-smaller-then-continues c = omega (arith, continued _ _ c.peek-b.ensures c.continues.ensures c.if-continues.true)

pub loop-at-preserved-then-continues : goal.loop-at-preserved-then-continues
loop-at-preserved-then-continues c = λ t r.
    let k = continued _ _ c.peek-b.ensures c.continues.ensures c.if-continues.true in
    c.loop-at.invariant _ (scanned_more _ _ _ _ t k.reads k.no_slash r)

pub returns-in_default : goal.returns-in_default
returns-in_default c = let ended = character_refused _ c.character_in.ensures c.in_default.is in
    c.loop-at.invariant _ (scanned_end _ _ ended)

pub returns-then-c-eq47 : goal.returns-then-c-eq47
returns-then-c-eq47 c = let read = scalar_ok _ c.character_in.ensures c.in-Ok.is in
    c.loop-at.invariant _ (scanned_slash _ _ _ _ read c.if-c-eq47.true)

pub loop-at-smaller : goal.loop-at-smaller
loop-at-smaller c = character_less _ _ (scalar_ok _ c.character_in.ensures c.in-Ok.is)

pub loop-at-preserved : goal.loop-at-preserved
loop-at-preserved c = λ t r.
    let read = scalar_ok _ c.character_in.ensures c.in-Ok.is in
    c.loop-at.invariant _ (scanned_more _ _ _ _ t read c.if-c-eq47.false r)
