use Rattle.lexer.proofs.verbatim.verbatim_end.Goals as goal

pub returns : goal.returns
returns c =
    c.passed_end.ensures _ (c.steps-steps.ensures _ c.columns-columns.ensures)
