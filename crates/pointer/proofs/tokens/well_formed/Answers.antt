-- `well_formed`: the tokens that are left are well formed exactly if all from the start on are.
use mathlib.Core.Path.{sym, ◌∙◌}
use native.Mathlib.Omega.{arith}
use Rattle.lexer.proofs.AnswerLaws.{scalar_ok, character_refused}
use Rattle.pointer.proofs.ScanLaws.{character_less}
use Rattle.pointer.proofs.EscapeLaws.{zero, one, none_malformed, more_tokens, tilde_last, tilde_escapes, tilde-other}
use Rattle.pointer.proofs.tokens.well_formed.Goals as goal

pub returns-in_default : goal.returns-in_default
returns-in_default c = let ended = character_refused _ c.character_in.ensures c.in_default.is in
    sym (none_malformed _ _ ended) ∙ c.loop-c.invariant

pub loop-c-smaller-then-c-ne126 : goal.loop-c-smaller-then-c-ne126
loop-c-smaller-then-c-ne126 c = character_less _ _ (scalar_ok _ c.character_in.ensures c.in-Ok.is)

pub loop-c-preserved-then-c-ne126 : goal.loop-c-preserved-then-c-ne126
loop-c-preserved-then-c-ne126 c = let read = scalar_ok _ c.character_in.ensures c.in-Ok.is in
    sym (more_tokens _ _ _ _ read c.if-c-ne126.true) ∙ c.loop-c.invariant

pub returns-in_default-character_in : goal.returns-in_default-character_in
returns-in_default-character_in c =
    let tilde = scalar_ok _ c.character_in.ensures c.in-Ok.is in
    let ended = character_refused _ c.character_in-in-loop-c.ensures c.in_default-character_in.is in
    sym (tilde_last _ _ _ _ tilde (omega arith) ended) ∙ c.loop-c.invariant

pub loop-c-smaller-then-d-eq48 : goal.loop-c-smaller-then-d-eq48
loop-c-smaller-then-d-eq48 c =
    let tilde = scalar_ok _ c.character_in.ensures c.in-Ok.is in
    let digit = scalar_ok _ c.character_in-in-loop-c.ensures c.in-Ok-character_in.is in
    omega (arith, character_less _ _ tilde, character_less _ _ digit)

pub loop-c-preserved-then-d-eq48 : goal.loop-c-preserved-then-d-eq48
loop-c-preserved-then-d-eq48 c =
    let tilde = scalar_ok _ c.character_in.ensures c.in-Ok.is in
    let digit = scalar_ok _ c.character_in-in-loop-c.ensures c.in-Ok-character_in.is in
    sym (tilde_escapes _ _ _ _ tilde _ _ digit (omega arith) (zero c.if-d-eq48.true)) ∙ c.loop-c.invariant

pub returns-then-d-ne49 : goal.returns-then-d-ne49
returns-then-d-ne49 c =
    let tilde = scalar_ok _ c.character_in.ensures c.in-Ok.is in
    let digit = scalar_ok _ c.character_in-in-loop-c.ensures c.in-Ok-character_in.is in
    sym (tilde-other _ _ _ _ tilde _ _ digit (omega arith) c.if-d-eq48.false c.if-d-ne49.true) ∙ c.loop-c.invariant

pub loop-c-smaller : goal.loop-c-smaller
loop-c-smaller c =
    let tilde = scalar_ok _ c.character_in.ensures c.in-Ok.is in
    let digit = scalar_ok _ c.character_in-in-loop-c.ensures c.in-Ok-character_in.is in
    omega (arith, character_less _ _ tilde, character_less _ _ digit)

pub loop-c-preserved : goal.loop-c-preserved
loop-c-preserved c =
    let tilde = scalar_ok _ c.character_in.ensures c.in-Ok.is in
    let digit = scalar_ok _ c.character_in-in-loop-c.ensures c.in-Ok-character_in.is in
    sym (tilde_escapes _ _ _ _ tilde _ _ digit (omega arith) (one (omega arith))) ∙ c.loop-c.invariant
