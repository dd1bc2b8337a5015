-- `is_region` meets its contract, by what the bytes are.
use mathlib.Core.Path.{◌∙◌}
use Rattle.region.proofs.BeginsLaws.{told_region}
use Rattle.region.proofs.compare.is_region.Goals as goal

pub returns : goal.returns
returns c = c.is_ok.ensures.value ∙ told_region _ c.verdict_of.ensures
