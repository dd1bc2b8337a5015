-- `write_both` meets its contract, by what is refused.
use native.Mathlib.Omega.{arith}
use borrow.Author.Rules.{rules}
use Rattle.spec.specs.Fault.{number_of}
use Rattle.spec.proofs.FaultLaws.{handed}
use Rattle.json_patch.proofs.AnswerLaws.{mapped_ok, mapped_err}
use Rattle.undo.proofs.StageLaws.{both_short, both_unreadable, both_narrow, both-written}
use Rattle.undo.proofs.stages.write_both.Goals as goal

pub returns-then-not-fits : goal.returns-then-not-fits
unfolding number_of
returns-then-not-fits c = both_short _ _ _ c.fits.ensures c.if-not-fits.true c.refusal_answer.ensures

pub returns-in_err-map_err : goal.returns-in_err-map_err
returns-in_err-map_err c =
    let m = mapped_err _ _ c.map_err.ensures.cases c.in_err-map_err.was in
    rw (handed _ c.from_residual.ensures.1) (both_unreadable _ _ _ c.fits.ensures c.if-not-fits.false c.verdict.ensures m.1 (search rules))

pub returns-then-undo-length : goal.returns-then-undo-length
unfolding number_of
returns-then-undo-length c =
    both_narrow _ _ _ c.fits.ensures c.if-not-fits.false c.verdict.ensures (mapped_ok _ _ c.map_err.ensures.cases c.in_ok-map_err.was)
    c.text_length-length.ensures c.if-undo-length.true c.refusal_answer-then-undo-length.ensures

pub returns : goal.returns
returns c =
    both-written _ _ _ c.fits.ensures c.if-not-fits.false c.verdict.ensures (mapped_ok _ _ c.map_err.ensures.cases c.in_ok-map_err.was)
    c.text_length-length.ensures (omega arith) c.write-document.ensures c.copy_out.ensures
