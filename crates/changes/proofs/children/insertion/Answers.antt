-- `insertion` meets its contract.
use Rattle.changes.proofs.ChangeLaws.{insertion_dash, insertion_at_lem, insertion_beyond, insertion_not}
use Rattle.changes.proofs.children.insertion.Goals as goal

pub returns-in-Dash : goal.returns-in-Dash
returns-in-Dash c = insertion_dash _ _ c.in-Dash.is c.end_of.ensures

pub returns-in-At : goal.returns-in-At
returns-in-At c = insertion_at_lem _ _ c.in-At.is c.position.ensures

pub returns-in-Beyond : goal.returns-in-Beyond
returns-in-Beyond c = insertion_beyond _ c.in-Beyond.is

pub returns-in-Not : goal.returns-in-Not
returns-in-Not c = insertion_not _ c.in-Not.is
