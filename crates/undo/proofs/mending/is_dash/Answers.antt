-- `is_dash` meets its contract, by the variant.
use Rattle.undo.proofs.MendLaws.{told_dash, told_other}
use Rattle.undo.proofs.mending.is_dash.Goals as goal

pub returns-in-Dash : goal.returns-in-Dash
returns-in-Dash c = told_dash _ c.index.ensures c.in-Dash.is

pub returns-in_default : goal.returns-in_default
returns-in_default c = told_other _ c.index.ensures c.in_default.not-Dash
