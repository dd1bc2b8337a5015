use native.Mathlib.Omega.{arith}
use Rattle.text.specs.Letters.{letter_at}
use Rattle.text.proofs.LetterLaws.{scalar_less, refused_text}
use Rattle.text.proofs.RunLaws.{run_past, counted_starts, counted-run, counted_letter, counted_ends, counted_fits}
use Rattle.text.proofs.lengths.string_length.Goals as goal

pub loop-c-init : goal.loop-c-init
unfolding letter_at
loop-c-init c = counted_starts _

pub overflow_sub-total : goal.overflow_sub-total
unfolding letter_at
overflow_sub-total c = run_past c.run_end-at.ensures

pub overflow_add-total : goal.overflow_add-total
unfolding letter_at
overflow_add-total c = omega (arith, counted_fits (counted-run c.loop-c.invariant c.run_end-at.ensures))

pub returns-in_default : goal.returns-in_default
unfolding letter_at
returns-in_default c =
    counted_ends (counted-run c.loop-c.invariant c.run_end-at.ensures)
    (refused_text 2 _ _ c.string_letter.ensures _ c.in_default.is)

pub overflow_add-total-in-loop-c : goal.overflow_add-total-in-loop-c
unfolding letter_at
overflow_add-total-in-loop-c c =
    let k = counted-run c.loop-c.invariant c.run_end-at.ensures in
    omega (arith, counted_fits (counted_letter k c.string_letter.ensures c.in-Ok.is c.character_length-total.ensures))

pub loop-c-smaller : goal.loop-c-smaller
unfolding letter_at
loop-c-smaller c =
    omega (arith, run_past c.run_end-at.ensures, scalar_less 2 _ _ c.string_letter.ensures _ c.in-Ok.is)

pub loop-c-preserved : goal.loop-c-preserved
unfolding letter_at
loop-c-preserved c =
    let k = counted-run c.loop-c.invariant c.run_end-at.ensures in
    counted_letter k c.string_letter.ensures c.in-Ok.is c.character_length-total.ensures
