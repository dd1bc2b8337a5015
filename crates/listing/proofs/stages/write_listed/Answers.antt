-- `write_listed` meets its contract, by whether the text and the list fit.
use native.Mathlib.Omega.{arith}
use Rattle.spec.specs.Fault.{number_of}
use Rattle.json_patch.specs.Stages.{as_answer}
use Rattle.listing.proofs.StageLaws.{text_short, list_short, both-written}
use Rattle.listing.proofs.stages.write_listed.Goals as goal

pub returns-then-not-fits : goal.returns-then-not-fits
unfolding as_answer number_of
returns-then-not-fits c v b = text_short b _ c.fits.ensures c.if-not-fits.true c.refusal_answer.ensures

pub returns-then-origins-used : goal.returns-then-origins-used
unfolding as_answer number_of
returns-then-origins-used c v b =
    list_short b _ c.fits.ensures c.if-not-fits.false (omega arith) c.refusal_answer-then-origins-used.ensures

pub returns : goal.returns
returns c v b =
    both-written b _ c.fits.ensures c.if-not-fits.false (omega arith) c.write-length.ensures c.list_origins.ensures
