use mathlib.Core.Path.{sym, ◌∙◌}
use Rattle.decimal.proofs.MantissaLaws.{mantissa_counted, point_found, point_missing}
use Rattle.decimal.proofs.mantissa.fraction.Goals as goal

pub returns-in-Some : goal.returns-in-Some
returns-in-Some c = c.digits.ensures ∙ mantissa_counted _ ∙ point_found _ c.in-Some.at (sym c.point.ensures ∙ c.in-Some.is)

pub returns-in-None : goal.returns-in-None
returns-in-None c = point_missing _ (sym c.point.ensures ∙ c.in-None.is)
