-- `write_all` meets its contract, by what is refused.
use native.Mathlib.Omega.{arith}
use borrow.Author.Rules.{rules}
use Rattle.spec.specs.Fault.{number_of}
use Rattle.spec.specs.declared.refusal.Refusal.TheVariants as Refusal
use Rattle.spec.proofs.FaultLaws.{handed}
use Rattle.json_patch.specs.Call.{RefusalIs}
use Rattle.json_patch.proofs.AnswerLaws.{mapped_ok, mapped_err}
use Rattle.undo.proofs.StageLaws.{both_short, both_unreadable, both_narrow, both-written}
use Rattle.undo_listing.proofs.StageLaws.{list_short, all_refused, all_written}
use Rattle.undo_listing.proofs.stages.write_all.Goals as goal

pub returns-then-not-fits : goal.returns-then-not-fits
unfolding number_of
returns-then-not-fits c =
    all_refused (omega arith) _ (both_short _ _ _ c.fits.ensures c.if-not-fits.true c.refusal_answer-then-not-fits.ensures)
    Refusal.OutputTooShort c.refusal_answer-then-not-fits.ensures.0

pub returns-in_err-map_err : goal.returns-in_err-map_err
returns-in_err-map_err c =
    let (e, unreadable, refuses) = mapped_err _ _ c.map_err.ensures.cases c.in_err-map_err.was in
    let is : RefusalIs (number_of e) 2 0 0 c.in_err-map_err.field-0.0 = search rules in
    rw (handed _ c.from_residual.ensures.1)
    (all_refused c.if-origins-used.false _ (both_unreadable _ _ _ c.fits.ensures c.if-not-fits.false c.verdict-judged.ensures unreadable is) e is.0)

pub returns-then-undo-length : goal.returns-then-undo-length
unfolding number_of
returns-then-undo-length c =
    all_refused (omega arith) _
    (both_narrow _ _ _ c.fits.ensures c.if-not-fits.false c.verdict-judged.ensures (mapped_ok _ _ c.map_err.ensures.cases c.in_ok-map_err.was)
    c.text_length-length.ensures c.if-undo-length.true c.refusal_answer-then-undo-length.ensures)
    Refusal.OutputTooShort c.refusal_answer-then-undo-length.ensures.0

pub returns : goal.returns
returns c =
    all_written (omega arith) _
    (both-written _ _ _ c.fits.ensures c.if-not-fits.false c.verdict-judged.ensures (mapped_ok _ _ c.map_err.ensures.cases c.in_ok-map_err.was)
    c.text_length-length.ensures (omega arith) c.write-document.ensures c.copy_out.ensures)
    c.list_origins.ensures

pub returns-then-origins-used : goal.returns-then-origins-used
unfolding number_of
returns-then-origins-used c = list_short (omega arith) c.refusal_answer.ensures
