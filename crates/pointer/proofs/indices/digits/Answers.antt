-- `digits`: the digits that are left, after the value so far, say what all of them say.
use mathlib.Core.Path.{refl, sym, ap, ◌∙◌}
use Rattle.lexer.proofs.Auto.{auto}
use Rattle.text.proofs.LetterLaws.{scalar_text, scalar_less, refused_text}
use Rattle.pointer.specs.Index.{digits_after}
use Rattle.pointer.proofs.IndexLaws.{capped_limit, digits_end, digits_below, digits_above, digits_next}
use Rattle.pointer.proofs.indices.digits.Goals as goal

pub loop-c-init : goal.loop-c-init
loop-c-init c = (search auto, refl)

pub returns-in_default : goal.returns-in_default
returns-in_default c = let ended = refused_text _ _ _ c.letter.ensures _ c.in_default.is in
    c.index_at.ensures ∙ sym (ap (digits_after _) ended ∙ digits_end _) ∙ c.loop-c.invariant.1

pub returns-then-c-lt48 : goal.returns-then-c-lt48
returns-then-c-lt48 c = let read = scalar_text _ _ _ c.letter.ensures _ c.in-Ok.is in
    sym (ap (digits_after _) read ∙ digits_below _ _ _ c.if-c-lt48.true) ∙ c.loop-c.invariant.1

pub returns-then-c-gt57 : goal.returns-then-c-gt57
returns-then-c-gt57 c = let read = scalar_text _ _ _ c.letter.ensures _ c.in-Ok.is in
    sym (ap (digits_after _) read ∙ digits_above _ _ _ c.if-c-gt57.true) ∙ c.loop-c.invariant.1

pub loop-c-smaller : goal.loop-c-smaller
loop-c-smaller c = scalar_less _ _ _ c.letter.ensures _ c.in-Ok.is

pub loop-c-preserved : goal.loop-c-preserved
loop-c-preserved c =
    let read = scalar_text _ _ _ c.letter.ensures _ c.in-Ok.is in (
      rw c.with_digit-value.ensures (capped_limit _),
      digits_next _ read c.if-c-lt48.false c.if-c-gt57.false c.with_digit-value.ensures c.loop-c.invariant.1,
    )
