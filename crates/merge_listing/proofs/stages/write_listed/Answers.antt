-- `write_listed` meets its contract, by whether the text and the list fit.
use native.Mathlib.Omega.{arith}
use Rattle.spec.specs.Fault.{number_of}
use Rattle.json_patch.specs.Stages.{as_answer}
use Rattle.merge_listing.proofs.StageLaws.{text_short, list_short, both-written}
use Rattle.merge_listing.proofs.stages.write_listed.Goals as goal

pub returns-then-not-fits : goal.returns-then-not-fits
unfolding as_answer number_of
returns-then-not-fits c v b low counts = text_short b low _ c.fits.ensures c.if-not-fits.true c.refusal_answer.ensures

pub returns-then-origins-count : goal.returns-then-origins-count
unfolding as_answer number_of
returns-then-origins-count c v b low counts =
    list_short b low _ c.fits.ensures counts c.if-not-fits.false (omega (arith, c.if-origins-count.true)) c.refusal_answer-then-origins-count.ensures

pub returns : goal.returns
returns c v b low counts =
    both-written b low _ c.fits.ensures counts c.if-not-fits.false (omega (arith, c.if-origins-count.false)) c.write-length.ensures
    c.list_origins.ensures
