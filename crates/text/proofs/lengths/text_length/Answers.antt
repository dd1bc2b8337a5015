use native.Mathlib.Omega.{arith}
use Rattle.text.specs.Decode.{text_of}
use Rattle.text.proofs.LetterLaws.{scalar_text, scalar_less, refused_text}
use Rattle.text.proofs.LengthLaws.{length_more, length_ends, text_short}
use Rattle.text.proofs.lengths.text_length.Goals as goal

pub returns-in_default : goal.returns-in_default
unfolding text_of
returns-in_default c = omega (arith, length_ends (refused_text _ _ _ c.letter.ensures _ c.in_default.is))

pub overflow_add-total : goal.overflow_add-total
unfolding text_of
overflow_add-total c =
    omega (arith, length_more (scalar_text _ _ _ c.letter.ensures _ c.in-Ok.is), text_short c.args.form c.args.s.now)

pub loop-c-smaller : goal.loop-c-smaller
unfolding text_of
loop-c-smaller c = scalar_less _ _ _ c.letter.ensures _ c.in-Ok.is

pub loop-c-preserved : goal.loop-c-preserved
unfolding text_of
loop-c-preserved c = omega (arith, length_more (scalar_text _ _ _ c.letter.ensures _ c.in-Ok.is))

pub loop-c-init : goal.loop-c-init
unfolding text_of
loop-c-init c = omega arith
