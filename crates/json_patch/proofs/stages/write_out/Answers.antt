-- `write_out` meets its contract, by whether the text fits.
use Rattle.spec.specs.Fault.{number_of}
use Rattle.json_patch.specs.Stages.{as_answer}
use Rattle.json_patch.proofs.StageLaws.{text_refused, text_written}
use Rattle.json_patch.proofs.stages.write_out.Goals as goal

pub returns-then-not-fits : goal.returns-then-not-fits
unfolding as_answer number_of
returns-then-not-fits c used v d = text_refused d _ c.fits.ensures c.if-not-fits.true c.refusal_answer.ensures

pub returns : goal.returns
returns c used v d = text_written d _ c.fits.ensures c.if-not-fits.false c.write-length.ensures
