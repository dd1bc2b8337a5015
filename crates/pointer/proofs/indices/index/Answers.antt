use mathlib.Core.Path.{sym, ap, ◌∙◌}
use native.Mathlib.Omega.{arith}
use Rattle.text.specs.Decode.{text_of}
use Rattle.text.proofs.LetterLaws.{scalar_text, refused_text}
use Rattle.pointer.specs.Index.{index_of}
use Rattle.pointer.proofs.IndexLaws.{index_none, index_dash, index_zero, index_digits, index_below, index_above}
use Rattle.pointer.proofs.indices.index.Goals as goal

pub returns-in_default : goal.returns-in_default
unfolding text_of
returns-in_default c = sym (ap index_of (refused_text _ _ _ c.letter.ensures _ c.in_default.is) ∙ index_none)

pub returns-then-c-eq45 : goal.returns-then-c-eq45
unfolding text_of
returns-then-c-eq45 c =
    c.if_last.ensures ∙ sym (ap index_of (scalar_text _ _ _ c.letter.ensures _ c.in-Ok.is) ∙ index_dash _ _ c.if-c-eq45.true)

pub returns-then-c-eq48 : goal.returns-then-c-eq48
unfolding text_of
returns-then-c-eq48 c =
    c.if_last-then-c-eq48.ensures ∙ sym (ap index_of (scalar_text _ _ _ c.letter.ensures _ c.in-Ok.is) ∙ index_zero _ _ c.if-c-eq48.true)

pub returns-then-c-lt48 : goal.returns-then-c-lt48
unfolding text_of
returns-then-c-lt48 c =
    sym (ap index_of (scalar_text _ _ _ c.letter.ensures _ c.in-Ok.is) ∙ index_below _ _ c.if-c-eq45.false c.if-c-lt48.true)

pub returns-then-c-gt57 : goal.returns-then-c-gt57
unfolding text_of
returns-then-c-gt57 c =
    sym (ap index_of (scalar_text _ _ _ c.letter.ensures _ c.in-Ok.is) ∙ index_above _ _ c.if-c-gt57.true)

pub returns : goal.returns
unfolding text_of
returns c =
    c.digits.ensures
    ∙ sym (ap index_of (scalar_text _ _ _ c.letter.ensures _ c.in-Ok.is) ∙ index_digits _ _ (omega arith) c.if-c-gt57.false)
