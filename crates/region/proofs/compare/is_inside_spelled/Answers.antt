-- `is_inside_spelled` meets its contract: what the characters that are left say is what all say.
use native.Mathlib.Omega.{arith}
use Rattle.lexer.proofs.AnswerLaws.{scalar_ok, character_refused}
use Rattle.region.proofs.BeginsLaws.{ahead_all, ahead_byte, not_utf8, path_ends, differs, ahead_next, at_less, passed}
use Rattle.region.proofs.compare.is_inside_spelled.Goals as goal

pub loop-i-init : goal.loop-i-init
loop-i-init c = ahead_all _ _

pub loop-i-preserved-then-same_byte : goal.loop-i-preserved-then-same_byte
loop-i-preserved-then-same_byte c = ahead_byte c.loop-i.invariant (omega arith) (c.same_byte.ensures c.if-same_byte.true)

pub returns-in_default : goal.returns-in_default
returns-in_default c =
    not_utf8 c.loop-i.invariant (omega arith) (character_refused _ c.character_at.ensures c.in_default.is)

pub returns-in_default-string_letter : goal.returns-in_default-string_letter
returns-in_default-string_letter c =
    path_ends c.loop-i.invariant (omega arith)
    (scalar_ok _ c.character_at.ensures c.in-Ok.is)
    (character_refused _ c.string_letter.ensures c.in_default-string_letter.is)

pub returns-then-c-d : goal.returns-then-c-d
returns-then-c-d c =
    differs c.loop-i.invariant (omega arith)
    (scalar_ok _ c.character_at.ensures c.in-Ok.is)
    (scalar_ok _ c.string_letter.ensures c.in-Ok-string_letter.is) c.if-c-d.true

pub loop-i-smaller : goal.loop-i-smaller
loop-i-smaller c =
    at_less _ _ (omega arith) (scalar_ok _ c.character_at.ensures c.in-Ok.is)

pub loop-i-preserved : goal.loop-i-preserved
loop-i-preserved c =
    ahead_next c.loop-i.invariant (omega arith)
    (scalar_ok _ c.character_at.ensures c.in-Ok.is)
    (scalar_ok _ c.string_letter.ensures c.in-Ok-string_letter.is) c.if-c-d.false

pub returns : goal.returns
returns c = passed c.loop-i.invariant (omega arith) c.slash_at.ensures
