use Rattle.text.proofs.RunLaws.{verbatim_run}
use Rattle.text.proofs.runs.run_end.Goals as goal

pub returns : goal.returns
returns c = verbatim_run c.verbatim_end.ensures.passed
