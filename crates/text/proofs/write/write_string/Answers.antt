use native.Mathlib.Omega.{arith}
use Rattle.lexer.specs.Names.{part}
use Rattle.lexer.proofs.AnswerLaws.{scalar_ok}
use Rattle.text.specs.Letters.{letter_at}
use Rattle.text.proofs.LetterLaws.{scalar_less, refused_text}
use Rattle.text.proofs.LengthLaws.{letter_fits}
use Rattle.text.proofs.StoreLaws.{laying_length, laying_bound}
use Rattle.text.proofs.RunLaws.{run_past, run_inside, writing_starts, writing_run, writing_fits, writing_letter, writing_ends}
use Rattle.text.proofs.write.write_string.Goals as goal

pub loop-c-init : goal.loop-c-init
unfolding letter_at part
loop-c-init c = writing_starts _ _

pub slice_bounds-put_bytes-count : goal.slice_bounds-put_bytes-count
unfolding letter_at part
slice_bounds-put_bytes-count c = run_past c.run_end-at.ensures

pub slice_bounds-put_bytes-start : goal.slice_bounds-put_bytes-start
unfolding letter_at part
slice_bounds-put_bytes-start c = omega (arith, run_past c.run_end-at.ensures)

pub slice_bounds-put_bytes-end : goal.slice_bounds-put_bytes-end
unfolding letter_at part
slice_bounds-put_bytes-end c = omega (arith, run_inside c.loop-c.invariant.inside c.run_end-at.ensures)

pub put_bytes-put-requires : goal.put_bytes-put-requires
unfolding letter_at part
put_bytes-put-requires c = omega (arith, writing_fits c.loop-c.invariant c.run_end-at.ensures)

pub shape_of-out-in_default : goal.shape_of-out-in_default
unfolding letter_at part
shape_of-out-in_default c =
    laying_length (writing_run c.loop-c.invariant c.run_end-at.ensures c.put_bytes-put.ensures).laying

pub returns-in_default : goal.returns-in_default
unfolding letter_at part
returns-in_default c =
    writing_ends (writing_run c.loop-c.invariant c.run_end-at.ensures c.put_bytes-put.ensures)
    (refused_text 2 _ _ c.string_letter.ensures _ c.in_default.is)

pub put_character-put-requires : goal.put_character-put-requires
unfolding letter_at part
put_character-put-requires c =
    let l = laying_bound (writing_run c.loop-c.invariant c.run_end-at.ensures c.put_bytes-put.ensures).laying in
    (omega arith, (letter_fits 2 _ _ _ (scalar_ok _ c.string_letter.ensures c.in-Ok.is)).bound)

pub loop-c-smaller : goal.loop-c-smaller
unfolding letter_at part
loop-c-smaller c =
    omega (arith, run_past c.run_end-at.ensures, scalar_less 2 _ _ c.string_letter.ensures _ c.in-Ok.is)

pub loop-c-preserved : goal.loop-c-preserved
unfolding letter_at part
loop-c-preserved c =
    writing_letter (writing_run c.loop-c.invariant c.run_end-at.ensures c.put_bytes-put.ensures)
    c.string_letter.ensures c.in-Ok.is c.put_character-put.ensures
