use native.Mathlib.Omega.{arith}
use Rattle.lexer.proofs.AnswerLaws.{scalar_ok}
use Rattle.text.proofs.LetterLaws.{scalar_text, scalar_less, refused_text}
use Rattle.text.proofs.LengthLaws.{letter_fits}
use Rattle.text.proofs.StoreLaws.{laying_starts, laying_length, laying_bound, laying_ends, laying_more}
use Rattle.text.proofs.write.write_letters.Goals as goal

pub loop-c-init : goal.loop-c-init
loop-c-init c = laying_starts _ _ _

pub shape_of-out-in_default : goal.shape_of-out-in_default
shape_of-out-in_default c = laying_length c.loop-c.invariant

pub returns-in_default : goal.returns-in_default
returns-in_default c = laying_ends c.loop-c.invariant (refused_text _ _ _ c.letter.ensures _ c.in_default.is)

pub put_character-put-requires : goal.put_character-put-requires
put_character-put-requires c =
    let l = laying_bound c.loop-c.invariant in (omega arith, (letter_fits _ _ _ _ (scalar_ok _ c.letter.ensures c.in-Ok.is)).bound)

pub loop-c-smaller : goal.loop-c-smaller
loop-c-smaller c = scalar_less _ _ _ c.letter.ensures _ c.in-Ok.is

pub loop-c-preserved : goal.loop-c-preserved
loop-c-preserved c =
    laying_more c.loop-c.invariant _ _ (scalar_text _ _ _ c.letter.ensures _ c.in-Ok.is) c.put_character-put.ensures
