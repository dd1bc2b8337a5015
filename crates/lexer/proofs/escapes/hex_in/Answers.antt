use Rattle.spec.specs.Bytes.{within}
use Rattle.spec.specs.Strings.{hex_in}
use Rattle.spec.specs.Fault.{outcome_by, number_of}
use Rattle.lexer.proofs.Auto.{auto}
use Rattle.lexer.proofs.escapes.hex_in.Goals as goal

pub returns-then-h-low : goal.returns-then-h-low
unfolding hex_in within outcome_by number_of
returns-then-h-low c = rw (← c.peek.ensures, ← c.hex_value-h.ensures) (search auto)

pub returns-then-high-h : goal.returns-then-high-h
unfolding hex_in within outcome_by number_of
returns-then-high-h c = rw (← c.peek.ensures, ← c.hex_value-h.ensures) (search auto)

pub returns : goal.returns
unfolding hex_in within outcome_by number_of
returns c = rw (← c.peek.ensures, ← c.hex_value-h.ensures) (search auto)
