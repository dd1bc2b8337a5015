-- `write_at` meets its contract, by whether the text fits.
use Rattle.spec.specs.Fault.{number_of}
use Rattle.json_patch.specs.Stages.{as_answer}
use Rattle.merge.proofs.StageLaws.{text_refused, text_written}
use Rattle.merge.proofs.stages.write_at.Goals as goal

pub returns-then-not-fits : goal.returns-then-not-fits
unfolding as_answer number_of
returns-then-not-fits c v d low = text_refused d low _ c.fits.ensures c.if-not-fits.true c.refusal_answer.ensures

pub returns : goal.returns
returns c v d low = text_written d low _ c.fits.ensures c.if-not-fits.false c.write-length.ensures
