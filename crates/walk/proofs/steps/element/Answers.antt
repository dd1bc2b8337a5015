use Rattle.walk.proofs.StepLaws.{element_at_lem, element_not, element_dash, element_beyond}
use Rattle.walk.proofs.steps.element.Goals as goal

pub returns-in-At : goal.returns-in-At
returns-in-At c =
    element_at_lem _ c.part.ensures _ c.index.ensures _ c.in-At.is c.nth.ensures

pub returns-in-Not : goal.returns-in-Not
returns-in-Not c = element_not _ c.part.ensures _ c.index.ensures c.in-Not.is

pub returns-in-Dash : goal.returns-in-Dash
returns-in-Dash c = element_dash _ c.part.ensures _ c.index.ensures c.in-Dash.is

pub returns-in-Beyond : goal.returns-in-Beyond
returns-in-Beyond c = element_beyond _ c.part.ensures _ c.index.ensures c.in-Beyond.is
