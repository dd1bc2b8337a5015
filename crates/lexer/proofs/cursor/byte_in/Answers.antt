use Rattle.spec.specs.Bytes.{byte_in, within}
use Rattle.spec.specs.Fault.{outcome_by, number_of}
use Rattle.lexer.proofs.Auto.{auto}
use Rattle.lexer.proofs.cursor.byte_in.Goals as goal

pub returns-then-b-low : goal.returns-then-b-low
unfolding byte_in within outcome_by number_of
returns-then-b-low c = rw (← c.peek-b.ensures) (search auto)

pub returns-then-high-b : goal.returns-then-high-b
unfolding byte_in within outcome_by number_of
returns-then-high-b c = rw (← c.peek-b.ensures) (search auto)

pub returns : goal.returns
unfolding byte_in within outcome_by number_of
returns c = rw (← c.peek-b.ensures) (search auto)
