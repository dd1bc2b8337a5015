-- `after_letter` meets its contract: the exponent begins behind the first letter.
use mathlib.Core.Path.{sym, ◌∙◌}
use Rattle.decimal.proofs.ExponentLaws.{letter_found, letter_missing}
use Rattle.decimal.proofs.exponent.after_letter.Goals as goal

pub returns-in-Some : goal.returns-in-Some
returns-in-Some c = letter_found _ c.in-Some.at (sym c.letter.ensures ∙ c.in-Some.is)

pub returns-in-None : goal.returns-in-None
returns-in-None c = letter_missing _ (sym c.letter.ensures ∙ c.in-None.is)
